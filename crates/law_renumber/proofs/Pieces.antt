-- Pieces of changed terminals begin at the same places.
use Rattle.std.proofs.Common.{◌≡◌, ℕ, ◌+◌, ◌-◌, List, [], ◌∷◌, map, refl, Option, Some}
use Rattle.std.specs.Option.{option_map}
use Rattle.sql_token.specs.declared.terminal.Terminal.{Terminal}
use Rattle.sql_token.specs.Terminal.{is_opener, is_closer}
use Rattle.sql_token.specs.Depth.{one_if}
use Rattle.sql_tree.specs.Split.{Test}
use Rattle.sql_tree.specs.Pieces.{Head, before_after_head, pieces_from, pieces_at, pieces}
use Rattle.law_renumber.proofs.Seen.{Change, Blind, changed}
use Rattle.law_renumber.proofs.Basics.{moves}
use Rattle.law_renumber.proofs.Marks.{onto_moved}

pub before_after_head_sees : (mark : Test) → Blind mark → (f : Change) (n : ℕ) (e : Option Terminal) (o c : ℕ) (ts : List Terminal) →
    before_after_head mark n (option_map (changed f) e) o c (map (changed f) ts) ≡ before_after_head mark n e o c ts
before_after_head_sees mark blind f n e o c [] = refl
before_after_head_sees mark blind f n e o c (t ∷ ts) =
    simp (
      moves,
      blind f e t ts,
      before_after_head_sees mark blind f (n - 1) (Some t) (o + one_if (is_opener t)) (c + one_if (is_closer t)) ts,
    )

-- A head is as long.
abbrev pub BlindHead : Head → Type 0
BlindHead head = (f : Change) (t : Terminal) (ts : List Terminal) → head (changed f t) (map (changed f) ts) ≡ head t ts

pieces_from_moved : (mark : Test) → Blind mark → (head : Head) → BlindHead head →
    (f : Change) (n : ℕ) (e : Option Terminal) (o c : ℕ) (ts : List Terminal) →
    pieces_from mark head n (option_map (changed f) e) o c (map (changed f) ts)
    ≡ map (map (changed f)) (pieces_from mark head n e o c ts)
pieces_from_moved mark blind head same f n e o c [] = refl
pieces_from_moved mark blind head same f n e o c (t ∷ ts) =
    simp (
      moves,
      onto_moved,
      blind f e t ts,
      same f t ts,
      pieces_from_moved mark blind head same f (head t ts) (Some t) 0 0 ts,
      pieces_from_moved mark blind head same f (n - 1) (Some t) (o + one_if (is_opener t)) (c + one_if (is_closer t)) ts,
    )

pieces_at_moved : (mark : Test) → Blind mark → (head : Head) → BlindHead head → (f : Change) (ts : List Terminal) →
    pieces_at mark head (map (changed f) ts) ≡ map (map (changed f)) (pieces_at mark head ts)
pieces_at_moved mark blind head same f [] = refl
pieces_at_moved mark blind head same f (t ∷ ts) =
    simp (same f t ts, pieces_from_moved mark blind head same f (head t ts) (Some t) 0 0 ts, onto_moved)

pub pieces_moved : (mark : Test) → Blind mark → (head : Head) → BlindHead head →
    (f : Change) (earlier : Option Terminal) (ts : List Terminal) →
    pieces mark head (option_map (changed f) earlier) (map (changed f) ts) ≡ map (map (changed f)) (pieces mark head earlier ts)
unfolding pieces
pieces_moved mark blind head same f earlier ts =
    simp (before_after_head_sees mark blind f 0 earlier 0 0 ts, moves, pieces_at_moved mark blind head same)
