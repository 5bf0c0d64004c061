-- A stable sort gives the entries in the order of their keys.
use Rattle.std.specs.Prelude.{◌≡◌, ℕ, zero, suc, ◌<◌, Bool, true, false, ◌&&◌, not, List, [], ◌∷◌, ◌++◌, length, filter, nat_eq, nat_lt, ◌==◌, All, refl, slice_index_or}
use Rattle.std.proofs.Common.{sym, ◌∙◌, ap, arith, cond, inl, inr}
use Rattle.std.specs.Ordering.{nat_cmp, is_lt}
use Rattle.std.specs.List.Sorted.{IsNonDecreasingBy, IsSortedByKey, IsStableByKey, ties}
use Rattle.std.proofs.lemmas.List.Sorted.{IsNonDecreasingBy-from_sort}
use Rattle.std.proofs.lemmas.List.Elements.{All-append, All-filter, All-nil, filter_agree}
use Rattle.std.proofs.lemmas.Bool.{lt-ltb, le-ltb, ne_eqb, eq-eqb, cases_order}
use Rattle.std.specs.declared.cmp.Ordering.TheVariants.{Less, Equal, Greater}
use Rattle.fix_edit.specs.lint_transaction.Earlier.{concat_below}
use Rattle.squawk_linter.specs.ByStart.{by_key}

filter_none : {X : Type 0} (p : X → Bool) (xs : List X) → ((k : ℕ) (d : X) → k < length xs → p (slice_index_or xs k d) ≡ false) → filter p xs ≡ []
filter_none p [] h = refl
filter_none p (x ∷ xs) h =
    rw (h 0 x (omega arith)) (filter_none p xs (λ k d l. h (suc k) d (omega arith)))

tail_rises : {X : Type 0} (key : X → ℕ) (x : X) (xs : List X) → IsNonDecreasingBy key (x ∷ xs) → IsNonDecreasingBy key xs
tail_rises key x xs h i j d le lt = h (suc i) (suc j) d (omega arith) (omega arith)

-- in order, those below n + 1 are those below n and those at n
filter_split : {X : Type 0} (key : X → ℕ) (n : ℕ) (xs : List X) → IsNonDecreasingBy key xs → filter (λ v. nat_lt (key v) (suc n)) xs ≡ filter (λ v. nat_lt (key v) n) xs ++ filter (λ v. nat_eq (key v) n) xs
filter_split key n [] h = refl
filter_split key n (x ∷ xs) h =
    let rest = filter_split key n xs (tail_rises key x xs h) in
    elim (cases_order (key x) n) [
      | inl e ↦
          let none : filter (λ v. nat_lt (key v) n) xs ≡ [] =
          filter_none (λ v. nat_lt (key v) n) xs (λ k d l. le-ltb _ n (let up = h 0 (suc k) d (omega arith) (omega arith) in omega arith))
          in
          rw (lt-ltb (key x) (suc n) (omega arith), le-ltb (key x) n (omega arith), eq-eqb (key x) n e, none) (ap (λ ys. x ∷ ys) (rest ∙ ap (λ ys. ys ++ filter (λ v. nat_eq (key v) n) xs) none))
      | inr o ↦ elim o [
        | inl l ↦ rw (lt-ltb (key x) (suc n) (omega arith), lt-ltb (key x) n l, ne_eqb (key x) n (λ e. absurd (omega arith))) (ap (λ ys. x ∷ ys) rest)
        | inr g ↦ rw (le-ltb (key x) (suc n) (omega arith), le-ltb (key x) n (omega arith), ne_eqb (key x) n (λ e. absurd (omega arith))) rest
      ]
    ]

below_is : {X : Type 0} (key : X → ℕ) (n : ℕ) (xs : List X) → IsNonDecreasingBy key xs → filter (λ v. nat_lt (key v) n) xs ≡ by_key key n xs
below_is key zero xs h = filter_none (λ v. nat_lt (key v) 0) xs (λ k d l. le-ltb _ 0 (omega arith))
below_is key (suc n) xs h = filter_split key n xs h ∙ ap (λ ys. ys ++ filter (λ v. nat_eq (key v) n) xs) (below_is key n xs h)

filter_all : {X : Type 0} (key : X → ℕ) (n : ℕ) (xs : List X) → All (λ v. key v < n) xs → filter (λ v. nat_lt (key v) n) xs ≡ xs
filter_all key n [] h = refl
filter_all key n (x ∷ xs) h =
    rw (lt-ltb (key x) n (h 0 x (omega arith))) (ap (λ ys. x ∷ ys) (filter_all key n xs (λ k d l. h (suc k) d (omega arith))))

lt_is : (b c : Bool) → is_lt (cond b Less (cond c Equal Greater)) ≡ b
lt_is true true = refl
lt_is true false = refl
lt_is false true = refl
lt_is false false = refl

-- numbers tie where they are equal
tie_is : (a b : ℕ) → nat_eq b a ≡ (not (nat_lt a b) && not (nat_lt b a))
tie_is a b =
    elim (cases_order a b) [
      | inl e ↦ rw (eq-eqb b a (omega arith), le-ltb a b (omega arith), le-ltb b a (omega arith)) refl
      | inr o ↦ elim o [
        | inl l ↦ rw (ne_eqb b a (λ e. absurd (omega arith)), lt-ltb a b l) refl
        | inr g ↦ rw (ne_eqb b a (λ e. absurd (omega arith)), le-ltb a b (omega arith), lt-ltb b a g) refl
      ]
    ]

pieces_same : {A : Type 0} (f g : ℕ → List A) → ((k : ℕ) → f k ≡ g k) → (n : ℕ) → concat_below f n ≡ concat_below g n
pieces_same f g h zero = refl
pieces_same f g h (suc n) = ap (λ xs. xs ++ f n) (pieces_same f g h n) ∙ ap (λ xs. concat_below g n ++ xs) (h n)

-- what a stable sort gives
pub by_key_from_sort : {X : Type 0} (key : X → ℕ) (blank : ℕ → X) → ((s : ℕ) → key (blank s) ≡ s) → (n : ℕ) (xs ys : List X) → IsSortedByKey key nat_cmp ys → IsStableByKey key nat_cmp xs ys → All (λ v. key v < n) ys → ys ≡ by_key key n xs
by_key_from_sort {X} key blank is n xs ys up stable all =
    let same : (s : ℕ) → filter (λ v. nat_eq (key v) s) ys ≡ filter (λ v. nat_eq (key v) s) xs =
    λ s.
    let lt : X → X → Bool = λ a b. is_lt (nat_cmp (key a) (key b)) in
    let agree : (v : X) → nat_eq (key v) s ≡ ties lt (blank s) v =
    λ v. tie_is s (key v)
    ∙ sym (ap (λ b. not b && not (lt v (blank s))) (lt_is (nat_lt (key (blank s)) (key v)) (key (blank s) == key v))
    ∙ (ap (λ b. not (nat_lt (key (blank s)) (key v)) && not b) (lt_is (nat_lt (key v) (key (blank s))) (key v == key (blank s)))
    ∙ ap (λ k. not (nat_lt k (key v)) && not (nat_lt (key v) k)) (is s)))
    in
    filter_agree (λ v. nat_eq (key v) s) (ties lt (blank s)) agree ys
    ∙ (stable (blank s) ∙ sym (filter_agree (λ v. nat_eq (key v) s) (ties lt (blank s)) agree xs))
    in
    sym (filter_all key n ys all)
    ∙ (below_is key n ys (IsNonDecreasingBy-from_sort key ys up)
    ∙ pieces_same (λ s. filter (λ v. nat_eq (key v) s) ys) (λ s. filter (λ v. nat_eq (key v) s) xs) same n)

-- what holds of each entry holds of each one in the new order
pub by_key_all : {X : Type 0} (P : X → Type 0) (key : X → ℕ) (n : ℕ) (xs : List X) → All P xs → All P (by_key key n xs)
by_key_all P key zero xs all = All-nil P
by_key_all P key (suc n) xs all =
    All-append P (by_key key n xs) (filter (λ x. key x == n) xs) (by_key_all P key n xs all) (All-filter (λ x. key x == n) P xs all)
