use Rattle.std.proofs.Common.{◌≡◌, ◌++◌, map, take, None}
use Rattle.pass_name.specs.BanDuplicateColumnAssignments as spec
use Rattle.pass_name.proofs.ban_duplicate_column_assignments.report_earlier.Given as goal

abbrev pub invariant-loop-m : goal.invariant-loop-m
invariant-loop-m l = l.out ≡ l.fn.out ++ map (spec.report l.kind l.p None) (take l.m-index l.members)
