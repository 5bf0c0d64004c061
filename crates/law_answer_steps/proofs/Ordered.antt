-- Entries in the order of a number.
use Rattle.std.proofs.Common.{◌≡◌, ◌∙◌, ℕ, zero, suc, ◌+◌, ◌<◌, ◌≤◌, inl, inr, Bool, true, false, cond, List, [], ◌∷◌, ◌++◌, length, sym, refl, arith}
use Rattle.std.proofs.lemmas.Bool.{cases_lt, false≢true}
use Rattle.std.proofs.lemmas.Bool.Decides.{nat_tests}
use Rattle.std.proofs.lemmas.List.Elements.{All-append, All-contains, All-cons, All-head, All-nil, All-tail, All-weaker, Contains-append_left, Contains-append_right}
use Rattle.std.specs.Prelude.{All, Contains, ◌==◌, filter}
use Rattle.law_fix_steps.specs.lint_base.declared.violation.Violation.{Violation}
use Rattle.squawk_linter.specs.pass_groups.OwnTable.{own_table}
use Rattle.squawk_linter.specs.ByStart.{by_key}
use Rattle.squawk_linter.specs.Reports.{cleared, gathered, reports_from, start_of, with_unknown_names}
use Rattle.law_answer_steps.specs.Leaves.{Ascend, AnswersAscend}

-- ---- members

pub first_there : {X : Type 0} (x : X) (xs : List X) → Contains (x ∷ xs) x
first_there x xs = (0, omega arith, refl)

pub later_there : {X : Type 0} (x : X) (xs : List X) (y : X) → Contains xs y → Contains (x ∷ xs) y
later_there x xs y h = Contains-append_right (x ∷ []) xs y h

filter_has : {X : Type 0} (p : X → Bool) (xs : List X) → All (λ y. p y ≡ true → Contains (filter p xs) y) xs
filter_has p [] = All-nil (λ y. p y ≡ true → Contains [] y)
filter_has {X} p (x ∷ xs) = by (p x) refl (filter_has p xs)
  where
    by : (b : Bool) → p x ≡ b → All (λ y. p y ≡ true → Contains (filter p xs) y) xs → All (λ y. p y ≡ true → Contains (cond b (x ∷ filter p xs) (filter p xs)) y) (x ∷ xs)
    by true e rest =
        All-cons (λ y. p y ≡ true → Contains (x ∷ filter p xs) y) x xs (λ passes. first_there x (filter p xs))
        (All-weaker (λ y. p y ≡ true → Contains (filter p xs) y) (λ y. p y ≡ true → Contains (x ∷ filter p xs) y) (λ y h passes. later_there x (filter p xs) y (h passes)) xs rest)
    by false e rest = All-cons (λ y. p y ≡ true → Contains (filter p xs) y) x xs (λ passes. absurd (false≢true (sym e ∙ passes))) rest

is_same : (a b : ℕ) → a ≡ b → (a == b) ≡ true
is_same a b h = grind (arith, nat_tests)

are_same : (a b : ℕ) → (a == b) ≡ true → a ≡ b
are_same a b h = grind (arith, nat_tests)

pub by_key_has : {X : Type 0} (key : X → ℕ) (n : ℕ) (xs : List X) (x : X) → Contains xs x → key x < n → Contains (by_key key n xs) x
by_key_has key zero xs x h low = absurd (omega (arith, low))
by_key_has key (suc n) xs x h low =
    elim (cases_lt (key x) n) [
      | inl less ↦ Contains-append_left (by_key key n xs) (filter (λ y. key y == n) xs) x (by_key_has key n xs x h less)
      | inr more ↦
          Contains-append_right (by_key key n xs) (filter (λ y. key y == n) xs) x
          (All-contains (λ y. (key y == n) ≡ true → Contains (filter (λ z. key z == n) xs) y) xs x (filter_has (λ y. key y == n) xs) h (is_same (key x) n (omega (arith, low, more))))
    ]

-- ---- the order

filter_passes : {X : Type 0} (p : X → Bool) (xs : List X) → All (λ y. p y ≡ true) (filter p xs)
filter_passes p [] = All-nil (λ y. p y ≡ true)
filter_passes {X} p (x ∷ xs) = by (p x) refl (filter_passes p xs)
  where
    by : (b : Bool) → p x ≡ b → All (λ y. p y ≡ true) (filter p xs) → All (λ y. p y ≡ true) (cond b (x ∷ filter p xs) (filter p xs))
    by true e rest = All-cons (λ y. p y ≡ true) x (filter p xs) e rest
    by false e rest = rest

at_key : (n : ℕ) (xs : List Violation) → All (λ v. start_of v ≡ n) (filter (λ v. start_of v == n) xs)
at_key n xs =
    All-weaker (λ v. (start_of v == n) ≡ true) (λ v. start_of v ≡ n) (λ v h. are_same (start_of v) n h) (filter (λ v. start_of v == n) xs) (filter_passes (λ v. start_of v == n) xs)

below_key : (n : ℕ) (xs : List Violation) → All (λ v. start_of v < n) (by_key start_of n xs)
below_key zero xs = All-nil (λ v. start_of v < 0)
below_key (suc n) xs =
    All-append (λ v. start_of v < suc n) (by_key start_of n xs) (filter (λ v. start_of v == n) xs)
    (All-weaker (λ v. start_of v < n) (λ v. start_of v < suc n) (λ v h. omega (arith, h)) (by_key start_of n xs) (below_key n xs))
    (All-weaker (λ v. start_of v ≡ n) (λ v. start_of v < suc n) (λ v h. omega (arith, h)) (filter (λ v. start_of v == n) xs) (at_key n xs))

ascend_append : (xs ys : List Violation) → Ascend xs → Ascend ys → All (λ v. All (λ w. start_of v ≤ start_of w) ys) xs → Ascend (xs ++ ys)
ascend_append [] ys h k each = k
ascend_append (x ∷ xs) ys h k each = (
  All-append (λ w. start_of x ≤ start_of w) xs ys h.0 (All-head (λ v. All (λ w. start_of v ≤ start_of w) ys) x xs each),
  ascend_append xs ys h.1 k (All-tail (λ v. All (λ w. start_of v ≤ start_of w) ys) x xs each),
)

same_ascend : (n : ℕ) (xs : List Violation) → All (λ v. start_of v ≡ n) xs → Ascend xs
same_ascend n [] h = tt
same_ascend n (x ∷ xs) h =
    let here = All-head (λ v. start_of v ≡ n) x xs h in
    let rest = All-tail (λ v. start_of v ≡ n) x xs h in
    (All-weaker (λ v. start_of v ≡ n) (λ w. start_of x ≤ start_of w) (λ w e. omega (arith, here, e)) xs rest, same_ascend n xs rest)

pub by_key_ascends : (n : ℕ) (xs : List Violation) → Ascend (by_key start_of n xs)
by_key_ascends zero xs = tt
by_key_ascends (suc n) xs =
    ascend_append (by_key start_of n xs) (filter (λ v. start_of v == n) xs) (by_key_ascends n xs) (same_ascend n (filter (λ v. start_of v == n) xs) (at_key n xs))
    (All-weaker (λ v. start_of v < n) (λ v. All (λ w. start_of v ≤ start_of w) (filter (λ u. start_of u == n) xs))
    (λ v low. All-weaker (λ w. start_of w ≡ n) (λ w. start_of v ≤ start_of w) (λ w e. omega (arith, low, e)) (filter (λ u. start_of u == n) xs) (at_key n xs))
    (by_key start_of n xs) (below_key n xs))

pub answers_ascend : AnswersAscend
unfolding reports_from
answers_ascend tree rules settings = by_key_ascends (length tree.text + 1) (gathered tree (with_unknown_names tree (own_table tree rules (cleared tree settings))) rules)
