-- One part after another.
use Rattle.std.proofs.Common.{◌≡◌, ℕ, suc, ◌+◌, ◌-◌, ◌<◌, ◌≤◌, ◌==◌, Bool, true, false, ◌&&◌, if◌then◌else◌, List, [], ◌∷◌, length, take, drop, get_or, refl, ap, arith, length-drop, add-one, Option, Some}
use Rattle.std.proofs.Math.Seq.{take-length}
use Rattle.sql_token.specs.declared.terminal.Terminal.{Terminal}
use Rattle.sql_token.specs.Terminal.{is_opener, is_closer}
use Rattle.sql_token.specs.Depth.{one_if, onto}
use Rattle.sql_tree.specs.Split.{Test, before_from, split_from, uncons}

within_step : (b : Bool) (x n : ℕ) → x ≤ n → (if b then 0 else suc x) ≤ suc n
within_step true x n h = omega arith
within_step false x n h = omega arith

pub before_within : (mark : Test) (e : Option Terminal) (o c : ℕ) (ts : List Terminal) → before_from mark e o c ts ≤ length ts
before_within mark e o c [] = omega arith
before_within mark e o c (t ∷ ts) =
    within_step (o == c && mark e t ts) _ _ (before_within mark (Some t) (o + one_if (is_opener t)) (c + one_if (is_closer t)) ts)

last_step : (b : Bool) (t : Terminal) (ts : List Terminal) (n : ℕ) (none all : List (List Terminal)) → (length ts ≤ n → all ≡ ts ∷ []) → suc (length ts) ≤ (if b then 0 else suc n)
    → (if b then [] ∷ none else onto t all) ≡ (t ∷ ts) ∷ []
last_step true t ts n none all more h = absurd (omega arith)
last_step false t ts n none all more h = ap (onto t) (more (omega arith))

-- A list without a mark is one part.
pub last_part : (mark : Test) (e : Option Terminal) (o c : ℕ) (ts : List Terminal) → length ts ≤ before_from mark e o c ts → split_from mark e o c ts ≡ ts ∷ []
last_part mark e o c [] h = refl
last_part mark e o c (t ∷ ts) h =
    last_step (o == c && mark e t ts) t ts _ _ _ (last_part mark (Some t) (o + one_if (is_opener t)) (c + one_if (is_closer t)) ts) h

-- The parts of a list whose first mark is at n.
abbrev cut_at : Test → ℕ → List Terminal → Terminal → List (List Terminal)
cut_at mark n ts d = take n ts ∷ split_from mark (Some (get_or ts n d)) 0 0 (drop (suc n) ts)

next_step : (b : Bool) (mark : Test) (t d : Terminal) (ts : List Terminal) (n : ℕ) (all : List (List Terminal))
    → (n < length ts → all ≡ cut_at mark n ts d) → (if b then 0 else suc n) < suc (length ts)
    → (if b then [] ∷ split_from mark (Some t) 0 0 ts else onto t all) ≡ cut_at mark (if b then 0 else suc n) (t ∷ ts) d
next_step true mark t d ts n all rest h = refl
next_step false mark t d ts n all rest h = rw (rest (omega arith)) refl

pub next_part_from : (mark : Test) (e : Option Terminal) (o c : ℕ) (ts : List Terminal) (d : Terminal) → before_from mark e o c ts < length ts
    → split_from mark e o c ts ≡ cut_at mark (before_from mark e o c ts) ts d
next_part_from mark e o c [] d h = absurd (omega arith)
next_part_from mark e o c (t ∷ ts) d h =
    next_step (o == c && mark e t ts) mark t d ts _ _ (next_part_from mark (Some t) (o + one_if (is_opener t)) (c + one_if (is_closer t)) ts d) h

pub only_part : (mark : Test) (e : Option Terminal) (s : List Terminal) → length s ≤ before_from mark e 0 0 s → uncons (split_from mark e 0 0 s) ≡ (Some (take (before_from mark e 0 0 s) s), [])
only_part mark e s h =
    let within : before_from mark e 0 0 s ≡ length s = omega (arith, before_within mark e 0 0 s) in
    let all = take-length s in
    rw (last_part mark e 0 0 s h, within, all) refl

pub first_part : (mark : Test) (e : Option Terminal) (s : List Terminal) (d : Terminal) → before_from mark e 0 0 s < length s
    → uncons (split_from mark e 0 0 s) ≡ (Some (take (before_from mark e 0 0 s) s), split_from mark (Some (get_or s (before_from mark e 0 0 s) d)) 0 0 (drop (before_from mark e 0 0 s + 1) s))
first_part mark e s d h = rw (next_part_from mark e 0 0 s d h, add-one) refl

-- the same, in the shape of the code's facts
pub first_part_left : (mark : Test) (e : Option Terminal) (s : List Terminal) (d : Terminal) (b : Bool) (n : ℕ) (now : List (List Terminal))
    → (if b then split_from mark e 0 0 s else []) ≡ now → b ≡ true → n ≡ before_from mark e 0 0 s → n < length s
    → uncons now ≡ (Some (take n s), (if b then split_from mark (Some (get_or s n d)) 0 0 (take (length s - (n + 1)) (drop (n + 1) s)) else []))
first_part_left mark e s d false n now is more value less = absurd (cc)
first_part_left mark e s d true n now is more value less =
    let h : before_from mark e 0 0 s < length s = omega arith in
    let rest : take (length s - (n + 1)) (drop (n + 1) s) ≡ drop (n + 1) s = rw (← length-drop (n + 1) s) (take-length (drop (n + 1) s)) in
    rw (← is, rest, value) (first_part mark e s d h)
