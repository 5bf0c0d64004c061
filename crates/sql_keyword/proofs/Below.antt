-- A test of every number below a bound, by computation.
use Rattle.std.proofs.Common.{eqb, ◌≢◌, ◌≡◌, ℕ, zero, suc, ◌<◌, Bool, true, false, ◌&&◌, ◌⊎◌, inl, inr, arith}
use Rattle.std.proofs.lemmas.Bool.{and_parts}
use Rattle.std.proofs.lemmas.Bool.Decides.{eqb_tells}

abbrev pub all_below : (ℕ → Bool) → ℕ → Bool
all_below test zero = true
all_below test (suc n) = test n && all_below test n

pub below_so : (test : ℕ → Bool) (n i : ℕ) → all_below test n ≡ true → i < n → test i ≡ true
below_so test zero i h l = absurd (omega arith)
below_so test (suc n) i h l =
    by_case (and_parts (test n) (all_below test n) h).0 (below_so test n i (and_parts (test n) (all_below test n) h).1) (eqb_tells i n)
  where
    by_case : test n ≡ true → (i < n → test i ≡ true) → ((eqb i n ≡ true) × (i ≡ n)) ⊎ ((eqb i n ≡ false) × (i ≢ n)) → test i ≡ true
    by_case here below (inl e) = rw e.1 here
    by_case here below (inr d) = let differs = d.1 in let less : i < n = omega arith in below less
