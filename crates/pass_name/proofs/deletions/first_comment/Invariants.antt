use Rattle.std.proofs.Common.{◌≡◌, length}
use Rattle.pass_name.specs.BanDuplicateColumnAssignments as spec
use Rattle.pass_name.proofs.deletions.first_comment.Given as goal

abbrev pub invariant-loop-tok : goal.invariant-loop-tok
invariant-loop-tok l = spec.first_comment l.rest ≡ spec.first_comment l.toks

abbrev pub decreases-loop-tok : goal.decreases-loop-tok
decreases-loop-tok l = length l.rest
