use Rattle.std.proofs.Common.{◌≡◌, ◌++◌, take}
use Rattle.std.specs.List.{flat_map}
use Rattle.pass_name.specs.BanDuplicateColumnAssignments as spec
use Rattle.pass_name.specs.Entries.{items_of}
use Rattle.pass_name.proofs.ban_duplicate_column_assignments.report_names.Given as goal

abbrev pub invariant-loop-group : goal.invariant-loop-group
invariant-loop-group l = l.out ≡ l.fn.out ++ flat_map (λ v. spec.reports_of_group l.kind l.p (items_of v)) (take l.group-index l.group-items)
