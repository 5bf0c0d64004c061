use Rattle.std.proofs.Common.{◌≡◌, ◌++◌, length}
use Rattle.std.specs.List.{flat_map}
use Rattle.pass_name.specs.BanDuplicateColumnAssignments as spec
use Rattle.pass_name.specs.Members.{lists_before, lists_from}
use Rattle.pass_name.specs.declared.members.ListKind.TheVariants as as_list
use Rattle.pass_name.proofs.ban_duplicate_column_assignments.report_before.Given as goal

abbrev pub invariant-loop-list : goal.invariant-loop-list
invariant-loop-list l = record {
  left : lists_from l.token l.rest ≡ lists_from l.token l.lists;
  all : l.out ++ flat_map (spec.reports_of_list as_list.Written l.p) (lists_before l.token l.rest) ≡ l.fn.out ++ flat_map (spec.reports_of_list as_list.Written l.p) (lists_before l.token l.lists);
}

abbrev pub decreases-loop-list : goal.decreases-loop-list
decreases-loop-list l = length l.rest
