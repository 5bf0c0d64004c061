use Rattle.std.proofs.Common.{◌≡◌, ◌++◌, take}
use Rattle.std.specs.List.{flat_map}
use Rattle.pass_name.specs.BanDuplicateColumnAssignments as spec
use Rattle.pass_name.specs.declared.members.ListKind.TheVariants as as_list
use Rattle.pass_name.proofs.ban_duplicate_column_assignments.report_lists.Given as goal

abbrev pub invariant-loop-list : goal.invariant-loop-list
invariant-loop-list l = l.out ≡ l.fn.out ++ flat_map (spec.reports_of_list as_list.Written l.p) (take l.list-index l.lists)
