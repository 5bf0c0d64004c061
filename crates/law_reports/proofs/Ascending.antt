-- What is put in the order of a number is in that order.
use Rattle.std.proofs.Common.{◌≡◌, ◌∙◌, sym, ap, arith, eqb-true, ℕ, zero, suc, ◌+◌, ◌-◌, ◌<◌, ◌≤◌, ⊎_elim, true, List, ◌++◌, length, get_or, filter, All, length-append, get_or-append-add}
use Rattle.std.specs.Prelude.{nat_eq}
use Rattle.std.specs.List.Sorted.{IsNonDecreasingBy}
use Rattle.std.proofs.lemmas.Bool.{cases_lt}
use Rattle.std.proofs.lemmas.List.{get_or_append_left}
use Rattle.std.proofs.lemmas.List.Elements.{All-append, All-nil, All-weaker, filter_passes}
use Rattle.text_reports.specs.squawk_linter.ByStart.{by_key}

module _ {X : Type 0} (key : X → ℕ) where
  -- a list in order, and then another one in order whose numbers are not below those of the first
  append_rises : (xs ys : List X) (n : ℕ) → IsNonDecreasingBy key xs → All (λ x. key x < n) xs → IsNonDecreasingBy key ys → All (λ y. n ≤ key y) ys
      → IsNonDecreasingBy key (xs ++ ys)
  append_rises xs ys n rises below later above i j d le l =
      let long = length-append xs ys in
      let near : (k : ℕ) → k < length xs → key (get_or (xs ++ ys) k d) ≡ key (get_or xs k d) = λ k low. ap key (get_or_append_left xs ys d k low) in
      let far : (k : ℕ) → length xs ≤ k → key (get_or (xs ++ ys) k d) ≡ key (get_or ys (k - length xs) d) =
      λ k past.
      let back : length xs + (k - length xs) ≡ k = omega (arith, past) in
      ap key (ap (λ m. get_or (xs ++ ys) m d) (sym back) ∙ get_or-append-add xs ys (k - length xs) d)
      in
      ⊎_elim
      (λ (first : j < length xs).
      let low : i < length xs = omega (arith, first, le) in
      let a = near i low in
      let b = near j first in
      let up = rises i j d le first in
      omega (arith, a, b, up))
      (λ (second : length xs ≤ j).
      let b = far j second in
      let inside : j - length xs < length ys = omega (arith, second, long, l) in
      ⊎_elim
      (λ (low : i < length xs).
      let a = near i low in
      let under = below i d low in
      let over = above (j - length xs) d inside in
      omega (arith, a, b, under, over))
      (λ (high : length xs ≤ i).
      let a = far i high in
      let order : i - length xs ≤ j - length xs = omega (arith, le, high, second) in
      let up = later (i - length xs) (j - length xs) d order inside in
      omega (arith, a, b, up))
      (cases_lt i (length xs)))
      (cases_lt j (length xs))

  -- entries of one number
  of_number : (n : ℕ) (xs : List X) → All (λ x. nat_eq (key x) n ≡ true) (filter (λ x. nat_eq (key x) n) xs)
  of_number n xs = filter_passes (λ x. nat_eq (key x) n) xs

  level : (n : ℕ) (xs : List X) → All (λ x. nat_eq (key x) n ≡ true) xs → IsNonDecreasingBy key xs
  level n xs same i j d le l =
      let one = eqb-true _ n (same i d (omega (arith, le, l))) in
      let two = eqb-true _ n (same j d l) in
      omega (arith, one, two)

  by_key_below : (n : ℕ) (xs : List X) → All (λ x. key x < n) (by_key key n xs)
  by_key_below zero xs = All-nil (λ x. key x < 0)
  by_key_below (suc n) xs =
      All-append (λ x. key x < suc n) (by_key key n xs) (filter (λ x. nat_eq (key x) n) xs)
      (All-weaker (λ x. key x < n) (λ x. key x < suc n) (λ x l. omega (arith, l)) (by_key key n xs) (by_key_below n xs))
      (All-weaker (λ x. nat_eq (key x) n ≡ true) (λ x. key x < suc n) (λ x e. let is = eqb-true (key x) n e in omega (arith, is)) (filter (λ x. nat_eq (key x) n) xs) (of_number n xs))

  pub by_key_rises : (n : ℕ) (xs : List X) → IsNonDecreasingBy key (by_key key n xs)
  by_key_rises zero xs = λ i j d le l. absurd (omega (arith, l))
  by_key_rises (suc n) xs =
      append_rises (by_key key n xs) (filter (λ x. nat_eq (key x) n) xs) n (by_key_rises n xs) (by_key_below n xs)
      (level n (filter (λ x. nat_eq (key x) n) xs) (of_number n xs))
      (All-weaker (λ x. nat_eq (key x) n ≡ true) (λ x. n ≤ key x) (λ x e. let is = eqb-true (key x) n e in omega (arith, is)) (filter (λ x. nat_eq (key x) n) xs) (of_number n xs))
