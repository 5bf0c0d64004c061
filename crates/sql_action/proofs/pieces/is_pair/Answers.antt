use Rattle.std.proofs.Common.{arith}
use Rattle.sql_tree.specs.ActionPieces.{is_pair}
use Rattle.sql_action.proofs.pieces.is_pair.Goals as goal

pub returns-else-is_keyword-4 : goal.returns-else-is_keyword-4
unfolding is_pair
returns-else-is_keyword-4 c = grind arith

pub returns-then-is_keyword-3 : goal.returns-then-is_keyword-3
unfolding is_pair
returns-then-is_keyword-3 c = grind arith

pub returns-then-is_keyword-4 : goal.returns-then-is_keyword-4
unfolding is_pair
returns-then-is_keyword-4 c = grind arith
