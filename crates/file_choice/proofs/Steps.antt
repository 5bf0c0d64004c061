-- Names, one by one.
use Rattle.std.proofs.Common.{◌≡◌, ◌∙◌, ◌+◌, ◌≤◌, ap, append_assoc, append-nil, arith, refl, sym, ℕ, zero, suc, Bool, true, false, ◌||◌, cond, List, [], ◌∷◌, ◌++◌, Some, drop, length, take}
use Rattle.std.proofs.lemmas.List.{drop_all}
use Rattle.std.proofs.lemmas.List.Folds.{list_any-append}
use Rattle.std.proofs.lemmas.Option.{slice_get_within}
use Rattle.std.specs.List.{list_any}
use Rattle.std.specs.Prelude.{slice_get}
use Rattle.std.specs.Str.{bytes_eq}
use Rattle.squawk_words.specs.Words.{Text}
use Rattle.file_choice.specs.Choice.{bare, chosen_after, is_among, is_excluded}

drop_at : {X : Type 0} (xs : List X) (i : ℕ) (x : X) → slice_get xs i ≡ Some x → drop i xs ≡ x ∷ drop (i + 1) xs
drop_at [] i x e = absurd (omega (arith, slice_get_within [] i x e))
drop_at (first ∷ xs) zero x e = let same : first ≡ x = cc in ap (λ w. w ∷ xs) same
drop_at (first ∷ xs) (suc i) x e = let next : suc i + 1 ≡ suc (i + 1) = omega arith in rw next (drop_at xs i x e)

take_at : {X : Type 0} (xs : List X) (i : ℕ) (x : X) → slice_get xs i ≡ Some x → take (i + 1) xs ≡ take i xs ++ x ∷ []
take_at [] i x e = absurd (omega (arith, slice_get_within [] i x e))
take_at (first ∷ xs) zero x e = let same : first ≡ x = cc in ap (λ w. w ∷ []) same
take_at (first ∷ xs) (suc i) x e = let next : suc i + 1 ≡ suc (i + 1) = omega arith in rw next (ap (λ ys. first ∷ ys) (take_at xs i x e))

-- ---- a test of one item after another

pub any_next : {X : Type 0} (p : X → Bool) (xs : List X) (i : ℕ) (x : X) → slice_get xs i ≡ Some x → p x ≡ false → list_any p (drop i xs) ≡ list_any p (drop (i + 1) xs)
any_next p xs i x at fails = rw (drop_at xs i x at, fails) refl

pub any_here : {X : Type 0} (p : X → Bool) (xs : List X) (i : ℕ) (x : X) → slice_get xs i ≡ Some x → p x ≡ true → list_any p (drop i xs) ≡ true
any_here p xs i x at holds = rw (drop_at xs i x at, holds) refl

pub any_last : {X : Type 0} (p : X → Bool) (xs : List X) (i : ℕ) → length xs ≤ i → list_any p (drop i xs) ≡ false
any_last p xs i ended = rw (drop_all i xs ended) refl

-- ---- what is chosen

-- what was chosen of the names before a place, and what is chosen from there on
abbrev pub chosen_from : List Text → List Text → List Text → ℕ → List Text
chosen_from patterns names all i = all ++ chosen_after patterns (take i names) (drop i names)

pub left_out : (patterns names all : List Text) (i : ℕ) (name : Text) → slice_get names i ≡ Some name → (is_among (take i names) name || is_excluded patterns (bare name)) ≡ true
    → chosen_from patterns names all i ≡ chosen_from patterns names all (i + 1)
left_out patterns names all i name at out = rw (drop_at names i name at, take_at names i name at, out) refl

pub taken : (patterns names all : List Text) (i : ℕ) (name : Text) → slice_get names i ≡ Some name → (is_among (take i names) name || is_excluded patterns (bare name)) ≡ false
    → chosen_from patterns names all i ≡ chosen_from patterns names (all ++ name ∷ []) (i + 1)
taken patterns names all i name at is =
    rw (drop_at names i name at, take_at names i name at, is) (sym (append_assoc all (name ∷ []) (chosen_after patterns (take i names ++ name ∷ []) (drop (i + 1) names))))

pub whole : (patterns names all : List Text) (i : ℕ) → length names ≤ i → chosen_from patterns names all i ≡ all
whole patterns names all i ended = rw (drop_all i names ended) (append-nil all)

-- ---- the names that were there

or_last : (a b : Bool) → cond b true a ≡ (a || b)
or_last true true = refl
or_last true false = refl
or_last false true = refl
or_last false false = refl

flat_or : (b : Bool) → (b || false) ≡ b
flat_or true = refl
flat_or false = refl

pub among_next : (names : List Text) (i : ℕ) (name other : Text) → slice_get names i ≡ Some name → cond (bytes_eq name other) true (is_among (take i names) other) ≡ is_among (take (i + 1) names) other
among_next names i name other at =
    or_last (is_among (take i names) other) (bytes_eq name other)
    ∙ (ap (λ (b : Bool). is_among (take i names) other || b) (sym (flat_or (bytes_eq name other)))
    ∙ (sym (list_any-append (λ (o : Text). bytes_eq o other) (take i names) (name ∷ [])) ∙ ap (λ (before : List Text). is_among before other) (sym (take_at names i name at))))
