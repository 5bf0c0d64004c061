-- The lock of a change of a column's type.
use Rattle.std.proofs.Common.{◌≡◌, refl, List, [], ◌∷◌, ◌||◌, false}
use Rattle.std.specs.Prelude.{if◌then◌else◌}
use Rattle.sql_tree.specs.declared.kinds.PieceKind.{PieceKind}
use Rattle.sql_tree.specs.declared.kinds.PieceKind.TheVariants as piece
use Rattle.sql_tree.specs.declared.nodes.Piece.{Piece}
use Rattle.lint_lock.specs.declared.lock.LockKind.TheVariants.{ShareUpdateExclusive, AccessExclusive}
use Rattle.lint_lock.specs.Lock.{is_light, is_light_kind}
use Rattle.lock_machine.specs.Works.{changes_type, is_type_kind, lock_if}

one_piece : (kind : PieceKind) → lock_if (is_type_kind kind || false) (if is_light_kind kind then ShareUpdateExclusive else AccessExclusive) ≡ lock_if (is_type_kind kind || false) AccessExclusive
one_piece piece.SetType = refl
one_piece _ = refl

-- No action that changes a type is light.
pub type_lock : (pieces : List Piece) → lock_if (changes_type pieces) (if is_light pieces then ShareUpdateExclusive else AccessExclusive) ≡ lock_if (changes_type pieces) AccessExclusive
type_lock [] = refl
type_lock (p ∷ []) = one_piece p.kind
type_lock (p ∷ q ∷ pieces) = refl
