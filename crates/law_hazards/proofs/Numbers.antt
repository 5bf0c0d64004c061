-- Tests on earlier numbers, and what they find.
use Rattle.std.proofs.Common.{◌≡◌, ◌∙◌, sym, ap, refl, arith, ltb-true, lt-ltb, ℕ, zero, suc, ◌<◌, ◌⊎◌, inl, inr, eq-or-lt_of_le, Bool, true, false, ◌&&◌, ◌||◌, not}
use Rattle.std.specs.Prelude.{nat_lt}
use Rattle.std.proofs.lemmas.Bool.{cases_Bool, and_parts, or_parts, false≢true, true≢false}
use Rattle.hazard_find.specs.lint_transaction.Earlier.{any_below, any_between, since}

-- the first number below n that passes, or some other one
pub record Found (p : ℕ → Bool) (n : ℕ) : Type 0 where
  pub number : ℕ
  pub is_below : number < n
  pub passes : p number ≡ true

further : (p : ℕ → Bool) (n : ℕ) → Found p n → Found p (suc n)
further p n f = let l = f.is_below in record { number = f.number; is_below = omega (arith, l); passes = f.passes }

pub found_below : (p : ℕ → Bool) (n : ℕ) → any_below p n ≡ true → Found p n
found_below p zero h = absurd (false≢true h)
found_below p (suc n) h =
    elim (cases_Bool (p n)) [
      | inl last ↦ record { number = n; is_below = omega arith; passes = last }
      | inr other ↦ further p n (found_below p n (front (any_below p n) (p n) other h))
    ]
  where
    front : (a b : Bool) → b ≡ false → (a || b) ≡ true → a ≡ true
    front true b e h = refl
    front false b e h = absurd (false≢true (sym e ∙ h))

at_last : (p : ℕ → Bool) (n k : ℕ) → (k ≡ n) ⊎ (k < n) → p n ≡ false → ((k : ℕ) → k < n → p k ≡ false) → p k ≡ false
at_last p n k (inl e) last front = ap p e ∙ last
at_last p n k (inr l) last front = front k l

pub none_below : (p : ℕ → Bool) (n : ℕ) → any_below p n ≡ false → (k : ℕ) → k < n → p k ≡ false
none_below p zero h k l = absurd (omega (arith, l))
none_below p (suc n) h k l =
    let both = or_parts (any_below p n) (p n) h in
    at_last p n k (eq-or-lt_of_le (omega (arith, l))) both.1 (none_below p n both.0)

-- ---- numbers after which nothing resets

pub not_so : (b : Bool) → not b ≡ true → b ≡ false
not_so true h = absurd (false≢true h)
not_so false h = refl

pub second_of : (a b : Bool) → a ≡ true → (a && b) ≡ false → b ≡ false
second_of true b e h = h
second_of false b e h = absurd (false≢true e)

pub is_so : (b : Bool) → not b ≡ false → b ≡ true
is_so true h = refl
is_so false h = absurd (true≢false h)

-- A number below i is marked, and none between them resets.
pub record Marked (mark reset : ℕ → Bool) (i : ℕ) : Type 0 where
  pub number : ℕ
  pub is_below : number < i
  pub is_marked : mark number ≡ true
  pub no_reset : (k : ℕ) → number < k → k < i → reset k ≡ false

pub since_marked : (mark reset : ℕ → Bool) (i : ℕ) → since mark reset i ≡ true → Marked mark reset i
since_marked mark reset i h =
    let f = found_below (λ j. mark j && not (any_between reset j i)) i h in
    let both = and_parts (mark f.number) (not (any_between reset f.number i)) f.passes in
    let none = not_so (any_between reset f.number i) both.1 in
    record {
      number = f.number;
      is_below = f.is_below;
      is_marked = both.0;
      no_reset = λ k a b. second_of (nat_lt f.number k) (reset k) (lt-ltb f.number k a) (none_below (λ k. nat_lt f.number k && reset k) i none k b);
    }

-- Where no number is marked that nothing after it resets, each marked one is reset.
pub reset_between : (mark reset : ℕ → Bool) (i : ℕ) → since mark reset i ≡ false → (j : ℕ) → j < i → mark j ≡ true
    → (k : ℕ) × (j < k) × (k < i) × (reset k ≡ true)
reset_between mark reset i h j l m =
    let none = none_below (λ j. mark j && not (any_between reset j i)) i h j l in
    let between = is_so (any_between reset j i) (second_of (mark j) (not (any_between reset j i)) m none) in
    let f = found_below (λ k. nat_lt j k && reset k) i between in
    let both = and_parts (nat_lt j f.number) (reset f.number) f.passes in
    (f.number, ltb-true j f.number both.0, f.is_below, both.1)
