-- A rule's facts are at its place in a table of facts.
use Rattle.std.proofs.Common.{◌≡◌, ℕ, List, Some, [], ◌∷◌, zero, suc, slice_get, get_or, map}

-- what two lists say alike, they say alike at each place
pub same_place : {A B C : Type 0} (f : A → C) (g : B → C) (xs : List A) (ys : List B) (n : ℕ) (d : A) (y : B) → slice_get ys n ≡ Some y → map f xs ≡ map g ys → f (get_or xs n d) ≡ g y
same_place f g xs [] n d y at e = absurd (cc)
same_place f g [] (b ∷ ys) n d y at e = absurd (cc)
same_place f g (a ∷ xs) (b ∷ ys) zero d y at e = cc
same_place f g (a ∷ xs) (b ∷ ys) (suc n) d y at e = same_place f g xs ys n d y at (cc)
