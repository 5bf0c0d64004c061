use Rattle.std.proofs.Common.{◌≡◌, length}
use Rattle.file_answer.specs.Joined.{has_body}
use Rattle.file_answer.proofs.joined.has_body.Given as goal

-- what is left has a body where all has one
abbrev pub invariant-left : goal.invariant-left
invariant-left l = has_body l.left ≡ has_body l.terminals

abbrev pub decreases-left : goal.decreases-left
decreases-left l = length l.left
