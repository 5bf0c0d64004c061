-- Members of lists.
use Rattle.std.proofs.Common.{◌≡◌, ◌∙◌, ℕ, zero, suc, ◌<◌, Bool, true, List, [], ◌∷◌, ◌++◌, length, refl, ap, sym, subst, inl, inr, arith}
use Rattle.std.proofs.Math.Bool.{or-true}
use Rattle.std.proofs.lemmas.Bool.{cases_Bool}
use Rattle.std.specs.List.{flat_map, list_any}
use Rattle.std.specs.Prelude.{◌||◌, ◌⊎◌, slice_get, slice_index_or, Some}

abbrev pub Member : {A : Type 0} → A → List A → Type 0
Member a [] = ⊥
Member a (x ∷ xs) = (x ≡ a) ⊎ Member a xs

pub member_at : {A : Type 0} (d : A) (xs : List A) (i : ℕ) → i < length xs → Member (slice_index_or xs i d) xs
member_at d [] i h = absurd (omega arith)
member_at d (x ∷ xs) zero h = inl refl
member_at d (x ∷ xs) (suc i) h = inr (member_at d xs i (omega arith))

pub member_got : {A : Type 0} (xs : List A) (i : ℕ) (a : A) → slice_get xs i ≡ Some a → Member a xs
member_got [] i a e = absurd (cc)
member_got (x ∷ xs) zero a e = inl (inside e)
  where
    inside : {A : Type 0} {x y : A} → Some x ≡ Some y → x ≡ y
    inside e = cc
member_got (x ∷ xs) (suc i) a e = inr (member_got xs i a e)

member_left : {A : Type 0} (a : A) (xs ys : List A) → Member a xs → Member a (xs ++ ys)
member_left a [] ys m = absurd m
member_left a (x ∷ xs) ys (inl e) = inl e
member_left a (x ∷ xs) ys (inr m) = inr (member_left a xs ys m)

member_right : {A : Type 0} (a : A) (xs ys : List A) → Member a ys → Member a (xs ++ ys)
member_right a [] ys m = m
member_right a (x ∷ xs) ys m = inr (member_right a xs ys m)

pub member_flat : {A B : Type 0} (f : A → List B) (a : A) (b : B) (xs : List A) → Member a xs → Member b (f a) → Member b (flat_map f xs)
member_flat f a b [] m n = absurd m
member_flat f a b (x ∷ xs) (inl e) n = member_left b (f x) (flat_map f xs) (subst (λ y. Member b (f y)) (sym e) n)
member_flat f a b (x ∷ xs) (inr m) n = member_right b (f x) (flat_map f xs) (member_flat f a b xs m n)

-- a member passes a test that some element passes
pub any_has : {A : Type 0} (p : A → Bool) (xs : List A) → list_any p xs ≡ true → (a : A) × Member a xs × (p a ≡ true)
any_has p [] e = absurd (cc)
any_has p (x ∷ xs) e =
    elim (cases_Bool (p x)) [
      | inl here ↦ (x, inl refl, here)
      | inr other ↦ let rest = any_has p xs (sym (ap (λ b. b || list_any p xs) other) ∙ e) in (rest.0, inr rest.1, rest.2)
    ]

pub has_any : {A : Type 0} (p : A → Bool) (a : A) (xs : List A) → Member a xs → p a ≡ true → list_any p xs ≡ true
has_any p a [] m e = absurd m
has_any p a (x ∷ xs) (inl same) e = ap (λ b. b || list_any p xs) (ap p same ∙ e)
has_any p a (x ∷ xs) (inr m) e = ap (λ b. p x || b) (has_any p a xs m e) ∙ or-true (p x)
