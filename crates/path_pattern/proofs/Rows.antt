-- A row, place by place.
use Rattle.std.proofs.Common.{◌≡◌, inl, inr, ◌∙◌, ◌+◌, ◌<◌, ◌≤◌, arith, refl, subst, sym, ℕ, Bool, true, false, ◌&&◌, ◌||◌, cond, List, [], ◌∷◌, length, drop, get_or, set, replicate}
use Rattle.std.proofs.lemmas.Bool.{cases_eq}
use Rattle.std.proofs.lemmas.List.{drop_all, drop_more, get_or_default, get_or-replicate, get_or-set_other, get_or-set_same, length-replicate}
use Rattle.path_pattern.specs.declared.part.Part.{Part}
use Rattle.path_pattern.specs.Patterns.{parts_of, takes, takes_many}
use Rattle.path_pattern.specs.Rows.{IsRow, after_any, after_one, ends_here, matched_by, part_test, value_at}

-- ---- one row from the one before it

-- The places from `i` on have the test with the part, those before it the test without, and this is the value that `i` had.
pub record Halfway (part : Part) (test : List ℕ → Bool) (path : List ℕ) (i : ℕ) (row : List Bool) (is_next : Bool) : Type 0 where
  pub done : (k : ℕ) → i ≤ k → k ≤ length path → get_or row k false ≡ part_test part test (drop k path)
  pub left : (k : ℕ) → k < i → get_or row k false ≡ test (drop k path)
  pub next : is_next ≡ test (drop i path)

at_end : (part : Part) (test : List ℕ → Bool) (many : Bool) → (many && test []) ≡ cond many (after_any (takes part) test []) (after_one (takes part) test [])
at_end part test true = refl
at_end part test false = refl

-- at the end of the path
pub begun : (part : Part) (test : List ℕ → Bool) (path : List ℕ) (row : List Bool) → length row ≡ length path + 1 → IsRow test path row
    → Halfway part test path (length path) (set row (length path) (takes_many part && get_or row (length path) false)) (get_or row (length path) false)
begun part test path row long is =
    let n = length path in
    let none : drop n path ≡ [] = drop_all n path (omega arith) in
    let next : get_or row n false ≡ test (drop n path) = is n (omega arith) in
    let inside : n < length row = omega arith in
    let value : (takes_many part && get_or row n false) ≡ part_test part test (drop n path) =
    rw (next, none) (at_end part test (takes_many part)) in
    record {
      done = λ k a b.
          let same : k ≡ n = omega arith in
          subst (λ (j : ℕ). get_or (set row n (takes_many part && get_or row n false)) j false ≡ part_test part test (drop j path)) (sym same)
          (get_or-set_same row n (takes_many part && get_or row n false) false inside ∙ value);
      left = λ k a.
          let other : k ≡ n → ⊥ = λ e. omega arith in
          get_or-set_other row n k (takes_many part && get_or row n false) false other ∙ is k (omega arith);
      next = next;
    }

value_is : (part : Part) (test : List ℕ → Bool) (x : ℕ) (xs : List ℕ) (many : Bool) → takes_many part ≡ many
    → cond many (test (x ∷ xs) || (takes part x && part_test part test xs)) (takes part x && test xs) ≡ cond many (after_any (takes part) test (x ∷ xs)) (after_one (takes part) test (x ∷ xs))
value_is part test x xs true e = rw e refl
value_is part test x xs false e = refl

-- one place further to the front
pub onward : (part : Part) (test : List ℕ → Bool) (path : List ℕ) (i : ℕ) (row : List Bool) (is_next : Bool) → length row ≡ length path + 1 → i < length path → Halfway part test path (i + 1) row is_next
    → Halfway part test path i
    (set row i (value_at part (get_or row i false) (takes part (get_or path i 0)) (get_or row (i + 1) false) is_next)) (get_or row i false)
onward part test path i row is_next long inside h =
    let value = value_at part (get_or row i false) (takes part (get_or path i 0)) (get_or row (i + 1) false) is_next in
    let here : get_or row i false ≡ test (drop i path) = h.left i (omega arith) in
    let later : get_or row (i + 1) false ≡ part_test part test (drop (i + 1) path) = h.done (i + 1) (omega arith) (omega arith) in
    let cut : drop i path ≡ get_or path i 0 ∷ drop (i + 1) path = drop_more path i 0 inside in
    let is : value ≡ part_test part test (drop i path) =
    rw (here, later, h.next, cut) (value_is part test (get_or path i 0) (drop (i + 1) path) (takes_many part) refl) in
    let room : i < length row = omega arith in
    record {
      done = λ k a b. elim (cases_eq k i) [
        | inl same ↦ subst (λ (j : ℕ). get_or (set row i value) j false ≡ part_test part test (drop j path)) (sym same) (get_or-set_same row i value false room ∙ is)
        | inr other ↦ get_or-set_other row i k value false other ∙ h.done k (omega arith) b
      ];
      left = λ k a.
          let other : k ≡ i → ⊥ = λ e. omega arith in
          get_or-set_other row i k value false other ∙ h.left k (omega arith);
      next = here;
    }

pub whole_row : (part : Part) (test : List ℕ → Bool) (path : List ℕ) (i : ℕ) (row : List Bool) (is_next : Bool) → i ≤ 0 → Halfway part test path i row is_next → IsRow (part_test part test) path row
whole_row part test path i row is_next none h k b = h.done k (omega arith) b

-- ---- the row of no part

not_ended : (path : List ℕ) (k : ℕ) → k < length path → ends_here (drop k path) ≡ false
not_ended path k h = subst (λ (s : List ℕ). ends_here s ≡ false) (sym (drop_more path k 0 h)) refl

pub first_is : (path : List ℕ) → IsRow ends_here path (set (replicate (length path + 1) false) (length path) true)
first_is path k b =
    let n = length path in
    let all : List Bool = replicate (n + 1) false in
    let room : n < length all = omega (arith, length-replicate {A = Bool}) in
    elim (cases_eq k n) [
      | inl same ↦
          let value : ends_here (drop k path) ≡ true = rw (drop_all k path (omega arith)) refl in
          subst (λ (j : ℕ). get_or (set all n true) j false ≡ true) (sym same) (get_or-set_same all n true false room) ∙ sym value
      | inr other ↦ get_or-set_other all n k true false other ∙ (get_or-replicate (n + 1) k false false (omega arith) ∙ sym (not_ended path k (omega arith)))
    ]

-- ---- the row of all parts

pub first_value : (pattern path : List ℕ) (i : ℕ) (row : List Bool) (x : Bool) → i ≤ 0 → length row ≡ length path + 1 → IsRow (matched_by (parts_of (drop i pattern))) path row → x ≡ get_or row 0 x
    → x ≡ matched_by (parts_of pattern) path
first_value pattern path i row x none long is at =
    let all : i ≡ 0 = omega arith in
    let whole : IsRow (matched_by (parts_of pattern)) path row = subst (λ (n : ℕ). IsRow (matched_by (parts_of (drop n pattern))) path row) all is in
    let room : 0 < length row = omega arith in
    at ∙ (get_or_default row 0 x false room ∙ whole 0 (omega arith))
