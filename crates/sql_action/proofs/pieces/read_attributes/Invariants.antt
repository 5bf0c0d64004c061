use Rattle.std.proofs.Common.{◌≡◌, length, map}
use Rattle.sql_tree.specs.declared.actions.TheConstants.{ATTRIBUTE}
use Rattle.sql_tree.specs.Split.{all_of, split, comma}
use Rattle.sql_tree.specs.ActionPieces.{piece_by}
use Rattle.sql_column.proofs.of_sql_mark.Front.{with_prefix}
use Rattle.sql_action.proofs.pieces.read_attributes.Given as goal

abbrev pub invariant-loop-part : goal.invariant-loop-part
invariant-loop-part l =
    with_prefix l.pieces.items (all_of (piece_by (map (λ r. (r.0, r.1.now)) ATTRIBUTE)) l.parts)
    ≡ all_of (piece_by (map (λ r. (r.0, r.1.now)) ATTRIBUTE)) (split comma l.terminals)

abbrev pub decreases-loop-part : goal.decreases-loop-part
decreases-loop-part l = length l.parts
