-- A search in a list.
use Rattle.std.proofs.Common.{◌≡◌, ◌∙◌, ap, refl, arith, ℕ, zero, suc, ◌+◌, Bool, true, false, ◌||◌, List, [], ◌∷◌, ◌++◌, map, take, Option, Some, None}
use Rattle.std.proofs.lemmas.Option.{slice_get_within}
use Rattle.std.specs.Prelude.{find, slice_get, if◌then◌else◌}
use Rattle.std.specs.List.{list_any}

abbrev or_this : {X : Type 0} → X → Option X → X
or_this x None = x
or_this x (Some y) = y

pub either : (a b : Bool) → a ≡ true → (a || b) ≡ true
either a b e = ap (λ x. x || b) e

pub or_other : (a b : Bool) → b ≡ true → (a || b) ≡ true
or_other true b e = refl
or_other false b e = e

neither : (a b : Bool) → a ≡ false → b ≡ false → (a || b) ≡ false
neither a b e f = ap (λ x. x || b) e ∙ f

pub not_first : (a b : Bool) → (a || b) ≡ false → a ≡ false
not_first true b e = absurd (grind (arith, e))
not_first false b e = refl

pub not_second : (a b : Bool) → (a || b) ≡ false → b ≡ false
not_second true b e = absurd (grind (arith, e))
not_second false b e = e

-- an element that passes is in the list
pub found_in : {X : Type 0} (p : X → Bool) (xs : List X) (i : ℕ) (x : X) → slice_get xs i ≡ Some x → p x ≡ true → list_any p xs ≡ true
found_in p [] i x there pass = absurd (omega (arith, slice_get_within [] i x there))
found_in p (y ∷ xs) zero x there pass = either (p y) (list_any p xs) (ap (λ o. p (or_this y o)) there ∙ pass)
found_in p (y ∷ xs) (suc i) x there pass = or_other (p y) (list_any p xs) (found_in p xs i x there pass)

none_so_far : {X : Type 0} (p : X → Bool) (xs : List X) (i : ℕ) (x : X) → list_any p (take i xs) ≡ false → slice_get xs i ≡ Some x → p x ≡ false
    → list_any p (take (suc i) xs) ≡ false
none_so_far p [] i x before there not_here = absurd (omega (arith, slice_get_within [] i x there))
none_so_far p (y ∷ xs) zero x before there not_here = neither (p y) false (ap (λ o. p (or_this y o)) there ∙ not_here) refl
none_so_far p (y ∷ xs) (suc i) x before there not_here =
    neither (p y) (list_any p (take (suc i) xs)) (not_first (p y) (list_any p (take i xs)) before)
    (none_so_far p xs i x (not_second (p y) (list_any p (take i xs)) before) there not_here)

-- none of those so far, and not the next one
pub none_next : {X : Type 0} (p : X → Bool) (xs : List X) (i : ℕ) (x : X) → list_any p (take i xs) ≡ false → slice_get xs i ≡ Some x → p x ≡ false
    → list_any p (take (i + 1) xs) ≡ false
none_next p xs i x before there not_here =
    let e : i + 1 ≡ suc i = omega arith in ap (λ n. list_any p (take n xs)) e ∙ none_so_far p xs i x before there not_here

-- none passes, and one more that does not
pub none_more : {X : Type 0} (p : X → Bool) (xs : List X) (x : X) → list_any p xs ≡ false → p x ≡ false → list_any p (xs ++ x ∷ []) ≡ false
none_more p [] x h g = neither (p x) false g refl
none_more p (y ∷ xs) x h g =
    neither (p y) (list_any p (xs ++ x ∷ [])) (not_first (p y) (list_any p xs) h) (none_more p xs x (not_second (p y) (list_any p xs) h) g)

not_where : (a b : Bool) → (a ≡ true → b ≡ true) → b ≡ false → a ≡ false
not_where true b h e = absurd (let t = h refl in grind (arith, t, e))
not_where false b h e = refl

-- where no element passes, none passes a stricter test
pub none_stricter : {X : Type 0} (p q : X → Bool) → ((x : X) → q x ≡ true → p x ≡ true) → (xs : List X) → list_any p xs ≡ false → list_any q xs ≡ false
none_stricter p q h [] e = refl
none_stricter p q h (x ∷ xs) e =
    neither (q x) (list_any q xs) (not_where (q x) (p x) (h x) (not_first (p x) (list_any p xs) e)) (none_stricter p q h xs (not_second (p x) (list_any p xs) e))

pub none_found : {X : Type 0} (p : X → Bool) (xs : List X) → list_any p xs ≡ false → find p xs ≡ None
none_found p [] e = refl
none_found p (x ∷ xs) e = ap (λ b. if b then Some x else find p xs) (not_first (p x) (list_any p xs) e) ∙ none_found p xs (not_second (p x) (list_any p xs) e)

-- a search in a list of what each element has
pub any_of_map : {X Y : Type 0} (p : Y → Bool) (f : X → Y) (xs : List X) → list_any (λ x. p (f x)) xs ≡ list_any p (map f xs)
any_of_map p f [] = refl
any_of_map p f (x ∷ xs) = ap (λ b. p (f x) || b) (any_of_map p f xs)
