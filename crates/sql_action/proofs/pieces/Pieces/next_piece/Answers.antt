use Rattle.std.proofs.Common.{arith}
use Rattle.sql_action.proofs.Skips.{first_piece}
use Rattle.sql_action.proofs.Skips.{none_left}
use Rattle.sql_action.proofs.pieces.Pieces.next_piece.Goals as goal

pub returns-then-is_empty : goal.returns-then-is_empty
returns-then-is_empty c = none_left c.self.inside.list c.self.inside.left.now _ _ c.self.view_is c.is_empty.ensures c.if-is_empty.true

pub returns : goal.returns
returns c = grind (arith, first_piece)
