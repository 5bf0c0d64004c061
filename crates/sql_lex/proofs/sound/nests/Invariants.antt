use Rattle.std.proofs.Common.{◌≡◌, length, []}
use Rattle.sql_lex.specs.Stack.{nests}
use Rattle.sql_lex.proofs.sound.nests.Given as goal

abbrev pub invariant-loop-left : goal.invariant-loop-left
invariant-loop-left l = nests l.brackets l.left ≡ nests [] l.statement

abbrev pub decreases-loop-left : goal.decreases-loop-left
decreases-loop-left l = length l.left
