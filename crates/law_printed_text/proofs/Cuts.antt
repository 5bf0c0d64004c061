-- Two texts that are the same, cut at a mark.
use Rattle.std.proofs.Common.{◌≡◌, ◌∙◌, ℕ, Bool, true, false, List, [], ◌∷◌, ◌++◌, ap, drop, get_or, refl, subst, sym}
use Rattle.std.proofs.lemmas.Bool.{and_parts, both_ways}
use Rattle.std.proofs.lemmas.List.Folds.{list_all-append}
use Rattle.std.specs.List.{list_all}

first_of_two : {a b : ℕ} {x y : List ℕ} → a ∷ x ≡ b ∷ y → a ≡ b
first_of_two e = ap (λ l. get_or l 0 0) e

pub rest_of_two : {a b : ℕ} {x y : List ℕ} → a ∷ x ≡ b ∷ y → x ≡ y
rest_of_two e = ap (drop 1) e

module _ (p : ℕ → Bool) where
  -- what passes a test, up to what does not
  pub cut : (a b x y : List ℕ) (c d : ℕ) → list_all p a ≡ true → list_all p b ≡ true → p c ≡ false → p d ≡ false → a ++ c ∷ x ≡ b ++ d ∷ y → (a ≡ b) × (c ∷ x ≡ d ∷ y)
  cut [] [] x y c d h k hc hd e = (refl, e)
  cut [] (b ∷ t) x y c d h k hc hd e =
      let here : p b ≡ true = (and_parts (p b) (list_all p t) k).0 in
      absurd (both_ways (p c) hc (ap p (first_of_two e) ∙ here))
  cut (a ∷ s) [] x y c d h k hc hd e =
      let here : p a ≡ true = (and_parts (p a) (list_all p s) h).0 in
      absurd (both_ways (p d) hd (ap p (sym (first_of_two e)) ∙ here))
  cut (a ∷ s) (b ∷ t) x y c d h k hc hd e =
      let later = cut s t x y c d (and_parts (p a) (list_all p s) h).1 (and_parts (p b) (list_all p t) k).1 hc hd (rest_of_two e) in
      (ap (λ l. a ∷ l) later.0 ∙ ap (λ n. n ∷ t) (first_of_two e), later.1)

  has_mark : (a x : List ℕ) (c : ℕ) → p c ≡ false → list_all p (a ++ c ∷ x) ≡ true → ⊥
  has_mark a x c hc e =
      let all = (and_parts (list_all p a) (list_all p (c ∷ x)) (sym (list_all-append p a (c ∷ x)) ∙ e)).1 in
      both_ways (p c) hc (and_parts (p c) (list_all p x) all).0

  -- what passes a test, after what does not
  pub cut_last : (a b x y : List ℕ) (c : ℕ) → list_all p x ≡ true → list_all p y ≡ true → p c ≡ false → a ++ c ∷ x ≡ b ++ c ∷ y → (a ≡ b) × (x ≡ y)
  cut_last [] [] x y c h k hc e = (refl, rest_of_two e)
  cut_last [] (b ∷ t) x y c h k hc e = absurd (has_mark t y c hc (subst (λ l. list_all p l ≡ true) (rest_of_two e) h))
  cut_last (a ∷ s) [] x y c h k hc e = absurd (has_mark s x c hc (subst (λ l. list_all p l ≡ true) (sym (rest_of_two e)) k))
  cut_last (a ∷ s) (b ∷ t) x y c h k hc e =
      let later = cut_last s t x y c h k hc (rest_of_two e) in
      (ap (λ l. a ∷ l) later.0 ∙ ap (λ n. n ∷ t) (first_of_two e), later.1)
