-- Tests on the numbers below a number: what is there earlier.
use Rattle.std.specs.Prelude.{ℕ, zero, suc, Bool, false, ◌&&◌, ◌||◌, not, nat_lt, List, [], ◌++◌}

-- some number below n passes
abbrev pub any_below : (ℕ → Bool) → ℕ → Bool
any_below p zero = false
any_below p (suc n) = any_below p n || p n

-- some number above j and below i passes
abbrev pub any_between : (ℕ → Bool) → ℕ → ℕ → Bool
any_between p j i = any_below (λ k. nat_lt j k && p k) i

-- some number below i is marked, and none above it and below i resets
abbrev pub since : (ℕ → Bool) → (ℕ → Bool) → ℕ → Bool
since mark reset i = any_below (λ j. mark j && not (any_between reset j i)) i

-- the pieces of the numbers below n, in order
abbrev pub concat_below : {A : Type 0} → (ℕ → List A) → ℕ → List A
concat_below f zero = []
concat_below f (suc n) = concat_below f n ++ f n
