-- A table is held against a definition at each of the 256 bytes, by computing.
use Rattle.std.proofs.Common.{◌≡◌, ℕ, zero, suc, ◌<◌, Bool, true, false, ◌&&◌, ◌==◌, not, nat_eq, bit_and, get_or, List, [], ◌∷◌, refl, arith, inl, inr, if◌then◌else◌}
use Rattle.std.specs.Bool.{beq}
use Rattle.std.proofs.lemmas.Bool.{and_parts, cases_eq}
use Rattle.std.proofs.lemmas.Bool.Decides.{nat_tests}

-- the test holds of each number below n
unfoldable pub all_below : (ℕ → Bool) → ℕ → Bool
all_below f zero = true
all_below f (suc n) = f n && all_below f n

at_below : (f : ℕ → Bool) (n : ℕ) → all_below f n ≡ true → (b : ℕ) → b < n → f b ≡ true
unfolding all_below
at_below f zero h b lt = absurd (omega arith)
at_below f (suc n) h b lt =
    let parts = and_parts (f n) (all_below f n) h in
    elim (cases_eq b n) [ inl same ↦ rw same parts.0 | inr other ↦ at_below f n parts.1 b (omega arith) ]

beq_same : (x y : Bool) → beq x y ≡ true → x ≡ y
beq_same true true h = refl
beq_same true false h = cc
beq_same false true h = cc
beq_same false false h = refl

abbrev pub has_flag : List ℕ → ℕ → ℕ → Bool
has_flag table flag b = not (nat_eq (bit_and (get_or table b 0) flag) 0)

pub from_flags : (table : List ℕ) (flag : ℕ) (test : ℕ → Bool) (b : ℕ) → b < 256 → all_below (λ x. beq (has_flag table flag x) (test x)) 256 ≡ true → has_flag table flag b ≡ test b
from_flags table flag test b lt h = beq_same _ _ (at_below (λ x. beq (has_flag table flag x) (test x)) 256 h b lt)

told_true : (c test : Bool) → c ≡ true → (if c then test else true) ≡ true → test ≡ true
told_true true test e h = h
told_true false test e h = cc

-- a test that a flag tells, where it is set
abbrev pub told_by_flag : List ℕ → ℕ → (ℕ → Bool) → ℕ → Bool
told_by_flag table flag test b = if has_flag table flag b then test b else true

pub from_flag : (table : List ℕ) (flag : ℕ) (test : ℕ → Bool) (b : ℕ) → b < 256 → all_below (told_by_flag table flag test) 256 ≡ true → has_flag table flag b ≡ true → test b ≡ true
from_flag table flag test b lt h is = told_true (has_flag table flag b) (test b) is (at_below (told_by_flag table flag test) 256 h b lt)

-- the tests that a class tells, where the table has that class
abbrev pub told : List ℕ → ℕ → (ℕ → Bool) → ℕ → Bool
told table class test b = if get_or table b 0 == class then test b else true

pub from_class : (table : List ℕ) (class : ℕ) (test : ℕ → Bool) (b : ℕ) → b < 256 → all_below (told table class test) 256 ≡ true → get_or table b 0 ≡ class → test b ≡ true
from_class table class test b lt h is = told_true (get_or table b 0 == class) (test b) (grind (arith, nat_tests)) (at_below (told table class test) 256 h b lt)

-- none of these tests holds
abbrev pub none_of : List Bool → Bool
none_of [] = true
none_of (x ∷ xs) = if x then false else none_of xs

abbrev pub AllFalse : List Bool → Type 0
AllFalse [] = Unit {0}
AllFalse (x ∷ xs) = (x ≡ false) × AllFalse xs

head_false : (x : Bool) (xs : List Bool) → none_of (x ∷ xs) ≡ true → (x ≡ false) × (none_of xs ≡ true)
head_false true xs h = cc
head_false false xs h = (refl, h)

pub all_false : (xs : List Bool) → none_of xs ≡ true → AllFalse xs
all_false [] h = tt
all_false (x ∷ xs) h = let parts = head_false x xs h in (parts.0, all_false xs parts.1)

pub same_number : (a b : ℕ) → (a == b) ≡ true → a ≡ b
same_number a b h = grind (arith, nat_tests)
