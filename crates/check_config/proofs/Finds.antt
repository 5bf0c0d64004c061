-- The first item that passes a test, item by item.
use Rattle.std.proofs.Common.{◌≡◌, ◌+◌, ◌≤◌, ap, arith, refl, ℕ, zero, suc, Bool, true, false, List, [], ◌∷◌, ◌++◌, Some, None, drop, length, take}
use Rattle.std.proofs.lemmas.List.{drop_all}
use Rattle.std.proofs.lemmas.Option.{slice_get_within}
use Rattle.std.specs.Prelude.{find, slice_get}

pub drop_at : {X : Type 0} (xs : List X) (i : ℕ) (x : X) → slice_get xs i ≡ Some x → drop i xs ≡ x ∷ drop (i + 1) xs
drop_at [] i x e = absurd (omega (arith, slice_get_within [] i x e))
drop_at (first ∷ xs) zero x e = let same : first ≡ x = cc in ap (λ w. w ∷ xs) same
drop_at (first ∷ xs) (suc i) x e = let next : suc i + 1 ≡ suc (i + 1) = omega arith in rw next (drop_at xs i x e)

pub take_at : {X : Type 0} (xs : List X) (i : ℕ) (x : X) → slice_get xs i ≡ Some x → take (i + 1) xs ≡ take i xs ++ x ∷ []
take_at [] i x e = absurd (omega (arith, slice_get_within [] i x e))
take_at (first ∷ xs) zero x e = let same : first ≡ x = cc in ap (λ w. w ∷ []) same
take_at (first ∷ xs) (suc i) x e = let next : suc i + 1 ≡ suc (i + 1) = omega arith in rw next (ap (λ ys. first ∷ ys) (take_at xs i x e))

pub find_next : {X : Type 0} (p : X → Bool) (xs : List X) (i : ℕ) (x : X) → slice_get xs i ≡ Some x → p x ≡ false → find p (drop i xs) ≡ find p (drop (i + 1) xs)
find_next p xs i x at fails = rw (drop_at xs i x at, fails) refl

pub find_here : {X : Type 0} (p : X → Bool) (xs : List X) (i : ℕ) (x : X) → slice_get xs i ≡ Some x → p x ≡ true → find p (drop i xs) ≡ Some x
find_here p xs i x at holds = rw (drop_at xs i x at, holds) refl

pub find_last : {X : Type 0} (p : X → Bool) (xs : List X) (i : ℕ) → length xs ≤ i → find p (drop i xs) ≡ None
find_last p xs i ended = rw (drop_all i xs ended) refl
