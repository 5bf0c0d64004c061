use Rattle.std.proofs.Common.{◌≡◌, length}
use Rattle.sql_tree.specs.Split.{all_of, chunks}
use Rattle.sql_tree.specs.ActionPieces.{piece_by, piece_len, piece_rows}
use Rattle.sql_column.proofs.of_sql_mark.Front.{with_prefix}
use Rattle.sql_action.proofs.pieces.read_pieces.Given as goal

abbrev pub invariant-loop-part : goal.invariant-loop-part
invariant-loop-part l =
    with_prefix l.pieces.items (all_of (piece_by (piece_rows l.fn.list)) l.parts)
    ≡ all_of (piece_by (piece_rows l.fn.list)) (chunks (piece_len l.fn.list) l.fn.terminals)

abbrev pub decreases-loop-part : goal.decreases-loop-part
decreases-loop-part l = length l.parts
