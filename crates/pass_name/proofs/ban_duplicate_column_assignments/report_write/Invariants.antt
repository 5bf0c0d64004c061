use Rattle.std.proofs.Common.{◌≡◌, ◌++◌, length}
use Rattle.pass_name.specs.BanDuplicateColumnAssignments as spec
use Rattle.pass_name.proofs.ban_duplicate_column_assignments.report_write.Given as goal

abbrev pub invariant-loop-set : goal.invariant-loop-set
invariant-loop-set l = l.out ++ spec.reports_of_write l.p l.rest l.lists ≡ l.fn.out ++ spec.reports_of_write l.p l.sets l.fn.lists

abbrev pub decreases-loop-set : goal.decreases-loop-set
decreases-loop-set l = length l.rest
