use Rattle.std.proofs.Common.{◌≡◌, length}
use Rattle.pass_name.specs.BanDuplicateColumnAssignments as spec
use Rattle.pass_name.proofs.deletions.after_comma.Given as goal

abbrev pub invariant-loop-tok : goal.invariant-loop-tok
invariant-loop-tok l = spec.after_comma l.text l.rest ≡ spec.after_comma l.text l.toks

abbrev pub decreases-loop-tok : goal.decreases-loop-tok
decreases-loop-tok l = length l.rest
