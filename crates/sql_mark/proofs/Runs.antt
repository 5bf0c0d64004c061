-- One piece after another.
use Rattle.std.proofs.Common.{◌≡◌, ℕ, suc, ◌+◌, ◌-◌, ◌<◌, ◌==◌, Bool, true, false, ◌&&◌, if◌then◌else◌, List, [], ◌∷◌, length, take, drop, refl, ap, arith, Option, Some}
use Rattle.std.proofs.lemmas.List.{take_rest}
use Rattle.sql_token.specs.declared.terminal.Terminal.{Terminal}
use Rattle.sql_token.specs.Terminal.{is_opener, is_closer}
use Rattle.sql_token.specs.Depth.{one_if, onto}
use Rattle.sql_tree.specs.Split.{Test, uncons}
use Rattle.sql_tree.specs.Pieces.{Head, before_after_head, pieces_from, pieces_at, piece_len}

step : (b : Bool) (mark : Test) (head : Head) (t : Terminal) (ts : List Terminal) (n : ℕ) (all : List (List Terminal)) → all ≡ take n ts ∷ pieces_at mark head (drop n ts)
    → (if b then [] ∷ pieces_at mark head (t ∷ ts) else onto t all) ≡ take (if b then 0 else suc n) (t ∷ ts) ∷ pieces_at mark head (drop (if b then 0 else suc n) (t ∷ ts))
step true mark head t ts n all e = refl
step false mark head t ts n all e = ap (onto t) e

-- What comes before the first mark, and the pieces from there on.
pub one_piece : (mark : Test) (head : Head) (n : ℕ) (e : Option Terminal) (o c : ℕ) (ts : List Terminal)
    → pieces_from mark head n e o c ts ≡ take (before_after_head mark n e o c ts) ts ∷ pieces_at mark head (drop (before_after_head mark n e o c ts) ts)
one_piece mark head n e o c [] = refl
one_piece mark head n e o c (t ∷ ts) =
    step (n == 0 && o == c && mark e t ts) mark head t ts _ _
    (one_piece mark head (n - 1) (Some t) (o + one_if (is_opener t)) (c + one_if (is_closer t)) ts)

-- A list that begins with a piece is this piece, and the pieces after it.
pub next : (mark : Test) (head : Head) (s : List Terminal) → 0 < length s
    → pieces_at mark head s ≡ take (piece_len mark head s) s ∷ pieces_at mark head (drop (piece_len mark head s) s)
next mark head [] h = absurd (omega arith)
next mark head (t ∷ ts) h = ap (onto t) (one_piece mark head (head t ts) (Some t) 0 0 ts)

pub first_piece : (mark : Test) (head : Head) (s : List Terminal) (n : ℕ) (now : List (List Terminal)) → pieces_at mark head s ≡ now
    → n ≡ piece_len mark head s → 0 < length s
    → uncons now ≡ (Some (take n s), pieces_at mark head (take (length s - n) (drop n s)))
first_piece mark head s n now is value some =
    rw (← is, next mark head s some, value, take_rest s (piece_len mark head s)) refl
