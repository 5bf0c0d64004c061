-- Parts of two texts that are the same.
use Rattle.std.proofs.Common.{◌≡◌, ◌∙◌, ℕ, zero, suc, ◌+◌, ◌<◌, ◌≤◌, List, [], ◌∷◌, ◌++◌, ap, arith, get_or, length, map, refl, sym, take}
use Rattle.std.proofs.lemmas.List.{get_or-map, length-map, take_all}
use Rattle.psql_text.specs.declared.part.Part.{Part}

take_more : {X : Type 0} (f : Part → X) (xs : List Part) (i : ℕ) (d : Part) → i < length xs → map f (take (i + 1) xs) ≡ map f (take i xs) ++ f (get_or xs i d) ∷ []
take_more f [] i d h = absurd (omega arith)
take_more f (x ∷ xs) zero d h = refl
take_more f (x ∷ xs) (suc i) d h =
    let next : suc i + 1 ≡ suc (i + 1) = omega arith in
    rw next (ap (λ l. f x ∷ l) (take_more f xs i d (omega arith)))

-- one part more is the same
pub more_same : {X : Type 0} (f g : Part → X) (xs ys : List Part) (i : ℕ) (d : Part) → i < length xs → i < length ys → map f (take i xs) ≡ map g (take i ys)
    → f (get_or xs i d) ≡ g (get_or ys i d) → map f (take (i + 1) xs) ≡ map g (take (i + 1) ys)
more_same f g xs ys i d hx hy before same = take_more f xs i d hx ∙ ((λ k. before k ++ same k ∷ []) ∙ sym (take_more g ys i d hy))

-- where all are the same, each is
pub one_same : {X : Type 0} (f g : Part → X) (xs ys : List Part) (i : ℕ) (d : Part) → i < length xs → i < length ys → map f xs ≡ map g ys → f (get_or xs i d) ≡ g (get_or ys i d)
one_same f g xs ys i d hx hy all = sym (get_or-map f xs i d (f d) hx) ∙ (ap (λ l. get_or l i (f d)) all ∙ get_or-map g ys i d (f d) hy)

pub all_same : {X : Type 0} (f g : Part → X) (xs ys : List Part) (i : ℕ) → length xs ≤ i → length ys ≤ i → map f (take i xs) ≡ map g (take i ys) → map f xs ≡ map g ys
all_same f g xs ys i hx hy e = ap (map f) (sym (take_all i xs hx)) ∙ (e ∙ ap (map g) (take_all i ys hy))

pub same_length : {X : Type 0} (f g : Part → X) (xs ys : List Part) → map f xs ≡ map g ys → length xs ≡ length ys
same_length f g xs ys e = sym (length-map xs f) ∙ (ap length e ∙ length-map ys g)
