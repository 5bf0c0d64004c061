use Rattle.std.proofs.Common.{◌≡◌, ◌++◌, length}
use Rattle.pass_name.specs.Members as spec
use Rattle.pass_name.proofs.lists.assigned.Given as goal

abbrev pub invariant-loop-part : goal.invariant-loop-part
invariant-loop-part l = l.names.items ++ spec.assigned l.rest ≡ spec.assigned l.parts

abbrev pub decreases-loop-part : goal.decreases-loop-part
decreases-loop-part l = length l.rest
