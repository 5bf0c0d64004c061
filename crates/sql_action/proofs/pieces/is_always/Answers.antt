use Rattle.std.proofs.Common.{arith}
use Rattle.sql_tree.specs.ActionPieces.{is_always}
use Rattle.sql_action.proofs.pieces.is_always.Goals as goal

pub returns-in-SetGenerated : goal.returns-in-SetGenerated
unfolding is_always
returns-in-SetGenerated c = grind arith

pub returns-in_default : goal.returns-in_default
unfolding is_always
returns-in_default c = grind arith
