-- How many entries there are in lists that are joined statement by statement.
use Rattle.std.proofs.Common.{◌≡◌, ℕ, zero, suc, ◌+◌, ◌<◌, ◌≤◌, Bool, true, false, cond, List, [], ◌∷◌, ◌++◌, map, length, length-append, get_or, append_assoc, append-nil, sym, refl, ap, ◌∙◌, arith}
use Rattle.std.proofs.lemmas.List.Elements.{All-nil, All-cons, All-head, All-tail, All-append}
use Rattle.std.proofs.lemmas.Map.Keys.{sorted_from_strictly_increasing}
use Rattle.std.proofs.lemmas.Map.Views.{length-le_from_below}
use Rattle.std.specs.Prelude.{All}
use Rattle.std.specs.List.{flat_map}
use Rattle.std.specs.List.Sorted.{IsStrictlyIncreasing}
use Rattle.law_type_fixes.specs.lint_base.declared.violation.Violation.{Violation}
use Rattle.law_type_fixes.specs.lint_pass.Those.{that, those}
use Rattle.law_type_fixes.specs.lint_transaction.Earlier.{concat_below}
use Rattle.law_type_fixes.proofs.of_law_renumber.Ordered.{Up}

-- ---- joined lists

pub fewer_below : {A B : Type 0} (f : ℕ → List A) (g : ℕ → List B) → ((i : ℕ) → length (f i) ≤ length (g i)) → (n : ℕ) → length (concat_below f n) ≤ length (concat_below g n)
fewer_below f g few zero = omega arith
fewer_below f g few (suc n) =
    let here = few n in
    let rest = fewer_below f g few n in
    omega (arith, here, rest, length-append (concat_below f n) (f n), length-append (concat_below g n) (g n))

pub two_each : {A : Type 0} (f : ℕ → List A) → ((i : ℕ) → length (f i) ≤ 2) → (n : ℕ) → length (concat_below f n) ≤ n + n
two_each f few zero = omega arith
two_each f few (suc n) = let here = few n in let rest = two_each f few n in omega (arith, here, rest, length-append (concat_below f n) (f n))

-- the first list aside
first_apart : {A : Type 0} (f : ℕ → List A) (n : ℕ) → concat_below f (suc n) ≡ f 0 ++ concat_below (λ i. f (suc i)) n
first_apart f zero = sym (append-nil (f 0))
first_apart f (suc n) =
    ap (λ (l : List _). l ++ f (suc n)) (first_apart f n) ∙ append_assoc (f 0) (concat_below (λ i. f (suc i)) n) (f (suc n))

pub in_order : {X A : Type 0} (F : X → List A) (none : X) (xs : List X) → concat_below (λ i. F (get_or xs i none)) (length xs) ≡ flat_map F xs
in_order F none [] = refl
in_order F none (x ∷ xs) = first_apart (λ i. F (get_or (x ∷ xs) i none)) (length xs) ∙ ap (λ (l : List _). F x ++ l) (in_order F none xs)

-- ---- nodes that pass a test

pub where_few : (b : Bool) (vs : List Violation) → length (cond b vs []) ≤ length vs
where_few true vs = omega arith
where_few false vs = omega arith

pub those_few : {N : Type 0} (test : N → Bool) (report : N → Violation) (nodes : List N) → length (those test report nodes) ≤ length nodes
those_few test report [] = omega arith
those_few test report (n ∷ ns) =
    let here = where_few (test n) (report n ∷ []) in
    let rest = those_few test report ns in
    omega (arith, here, rest, length-append (that test report n) (those test report ns))

-- ---- numbers that ascend

pub up_count : (lo : ℕ) (ns : List ℕ) (hi : ℕ) → Up lo ns hi → lo + length ns ≤ hi
up_count lo [] hi h = omega (arith, h)
up_count lo (n ∷ ns) hi h = let rest = up_count (suc n) ns hi h.1 in omega (arith, h.0, rest)

pub increasing_count : (ns : List ℕ) (hi : ℕ) → IsStrictlyIncreasing ns → All (λ n. n < hi) ns → length ns ≤ hi
increasing_count ns hi up below = length-le_from_below hi ns (sorted_from_strictly_increasing ns up) below

pub flat_all_of : {X A : Type 0} (P : A → Type 0) (F : X → List A) (xs : List X) → All (λ x. All P (F x)) xs → All P (flat_map F xs)
flat_all_of P F [] h = All-nil P
flat_all_of P F (x ∷ xs) h =
    All-append P (F x) (flat_map F xs) (All-head (λ x. All P (F x)) x xs h) (flat_all_of P F xs (All-tail (λ x. All P (F x)) x xs h))

pub map_all : {X A : Type 0} (P : A → Type 0) (g : X → A) (xs : List X) → All (λ x. P (g x)) xs → All P (map g xs)
map_all P g [] h = All-nil P
map_all P g (x ∷ xs) h = All-cons P (g x) (map g xs) (All-head (λ x. P (g x)) x xs h) (map_all P g xs (All-tail (λ x. P (g x)) x xs h))
