-- One chunk after another.
use Rattle.std.proofs.Common.{◌≡◌, ◌∙◌, sym, ◌<◌, ◌+◌, ◌-◌, ℕ, zero, suc, List, [], ◌∷◌, length, take, drop, refl, ap, arith, length-drop, ◌==◌, Bool, true, Some, None}
use Rattle.std.proofs.lemmas.Bool.{eqb-true}
use Rattle.std.proofs.Math.Seq.{take-length}
use Rattle.sql_tree.specs.sql_token.declared.terminal.Terminal.{Terminal}
use Rattle.sql_tree.specs.declared.actions.PieceList.{PieceList}
use Rattle.sql_tree.specs.Split.{uncons, chunks}
use Rattle.sql_tree.proofs.Chunks.{chunks_skipped}
use Rattle.sql_tree.specs.ActionPieces.{piece_len}

-- in the shape of the code's facts
pub first_piece : (list : PieceList) (s : List Terminal) (n m : ℕ) (now : List (List Terminal)) → chunks (piece_len list) s ≡ now → n ≡ piece_len list s → m ≡ n - 1 + 1 → 0 < length s
    → uncons now ≡ (Some (take n s), chunks (piece_len list) (take (length s - m) (drop m s)))
unfolding chunks
first_piece list [] n m now is value more some = absurd (omega arith)
first_piece list (t ∷ ts) n m now is value more some =
    let rest : take (length (t ∷ ts) - m) (drop m (t ∷ ts)) ≡ drop m (t ∷ ts) = rw (← length-drop m (t ∷ ts)) (take-length (drop m (t ∷ ts))) in
    let after : m ≡ suc (n - 1) = omega (arith, more) in
    rw (← is, rest, after, value) (ap (λ r. (Some (take (piece_len list (t ∷ ts)) (t ∷ ts)), r)) (chunks_skipped (piece_len list) (piece_len list (t ∷ ts) - 1) ts))

pub none_left : (list : PieceList) (s : List Terminal) (empty : Bool) (now : List (List Terminal)) → chunks (piece_len list) s ≡ now → empty ≡ (length s == 0) → empty ≡ true
    → uncons now ≡ (None, now)
unfolding chunks
none_left list [] empty now is told true_ = rw (← is) refl
none_left list (t ∷ ts) empty now is told true_ = absurd (omega (arith, eqb-true (length (t ∷ ts)) 0 (sym told ∙ true_)))
