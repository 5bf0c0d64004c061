use Rattle.sql_tree.specs.ActionPieces.{one_option}
use Rattle.sql_action.proofs.pieces.read_one_option.Goals as goal

pub returns : goal.returns
unfolding one_option
returns c = rw c.piece_by.ensures at c.alone.ensures
