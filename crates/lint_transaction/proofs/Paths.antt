-- Sets of paths: by the names that the paths are compared by.
use Rattle.std.proofs.Common.{◌≡◌, ◌∙◌, sym, ap, refl, ℕ, Bool, true, false, ◌||◌, not, List, [], ◌∷◌, map}
use Rattle.std.proofs.lemmas.List.Sorted.{list_any-IsPermutation}
use Rattle.std.proofs.lemmas.Slice.Eq.{bytes_eq-Decides, slice_eq-Decides}
use Rattle.std.specs.Bool.{MatchBool}
use Rattle.std.specs.List.{list_any}
use Rattle.std.specs.List.Sorted.{IsPermutation}
use Rattle.lint_transaction.specs.Transaction.{same_path}

pub same_so : (p q : List (List ℕ)) → same_path p q ≡ true → p ≡ q
same_so p q h = (slice_eq-Decides bytes_eq-Decides p q (same_path p q) refl).0 h

pub so_same : (p q : List (List ℕ)) → p ≡ q → same_path p q ≡ true
so_same p q h = (slice_eq-Decides bytes_eq-Decides p q (same_path p q) refl).1 h

same_trans : (p q r : List (List ℕ)) → same_path p q ≡ true → same_path q r ≡ true → same_path p r ≡ true
same_trans p q r a b = so_same p r (same_so p q a ∙ same_so q r b)

any_map : {K L : Type 0} (f : K → L) (p : L → Bool) (xs : List K) → list_any p (map f xs) ≡ list_any (λ x. p (f x)) xs
any_map f p [] = refl
any_map f p (x ∷ xs) = ap (λ b. p (f x) || b) (any_map f p xs)

pub or_true : (a : Bool) → (a || true) ≡ true
or_true true = refl
or_true false = refl

module _ {K : Type 0} (cuts : K → List (List ℕ)) (R : K → K → Bool) (same : (a b : K) → R a b ≡ same_path (cuts a) (cuts b)) where
  pub contains_path : (keys : List K) (k : K) → list_any (R k) keys ≡ list_any (same_path (cuts k)) (map cuts keys)
  contains_path [] k = refl
  contains_path (x ∷ xs) k = λ i. same k x i || contains_path xs k i

  member_by : (a b : Bool) (q : List (List ℕ)) (k x : K) (rest : Bool) → a ≡ R k x → (b ≡ true → rest ≡ true) → (a || b) ≡ true → same_path q (cuts k) ≡ true → (same_path q (cuts x) || rest) ≡ true
  member_by true b q k x rest e more h s =
      ap (λ c. c || rest) (same_trans q (cuts k) (cuts x) s (sym (same k x) ∙ sym e))
  member_by false b q k x rest e more h s = ap (λ c. same_path q (cuts x) || c) (more h) ∙ or_true (same_path q (cuts x))

  -- what is equal to a path in the set is in it
  member : (keys : List K) (k : K) (q : List (List ℕ)) → list_any (R k) keys ≡ true → same_path q (cuts k) ≡ true → list_any (same_path q) (map cuts keys) ≡ true
  member [] k q h s = absurd (cc)
  member (x ∷ xs) k q h s =
      member_by (R k x) (list_any (R k) xs) q k x (list_any (same_path q) (map cuts xs)) refl (λ more. member xs k q more s) h s

  not_true : (b : Bool) → false ≡ not b → b ≡ true
  not_true true h = refl
  not_true false h = absurd (cc)

  or_by : (b c : Bool) → (b ≡ true → c ≡ true) → c ≡ (b || c)
  or_by true c h = h refl
  or_by false c h = refl

  pub put_path : (old new : List K) (k : K) (added : Bool) → added ≡ not (list_any (R k) old) → MatchBool added (IsPermutation (k ∷ old) new) (new ≡ old)
      → (q : List (List ℕ)) → list_any (same_path q) (map cuts new) ≡ (same_path q (cuts k) || list_any (same_path q) (map cuts old))
  put_path old new k true e moved q =
      any_map cuts (same_path q) new
      ∙ sym (list_any-IsPermutation (λ x. same_path q (cuts x)) (k ∷ old) new moved)
      ∙ ap (λ b. same_path q (cuts k) || b) (sym (any_map cuts (same_path q) old))
  put_path old new k false e kept q =
      ap (λ (xs : List K). list_any (same_path q) (map cuts xs)) kept
      ∙ or_by (same_path q (cuts k)) (list_any (same_path q) (map cuts old)) (member old k q (not_true (list_any (R k) old) e))
