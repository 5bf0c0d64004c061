-- What is earlier, where there is one more statement at the start.
use Rattle.std.proofs.Common.{◌≡◌, ℕ, zero, suc, Bool, true, false, refl, ap, ◌∙◌}
use Rattle.std.proofs.lemmas.Bool.Decides.{nat_tests}
use Rattle.std.proofs.Common.{arith}
use Rattle.std.specs.Prelude.{◌&&◌, ◌||◌, not, nat_lt}
use Rattle.law_type_fixes.specs.lint_transaction.Earlier.{any_below, any_between, since}

pub any_shifted : (p q : ℕ → Bool) → p 0 ≡ false → ((i : ℕ) → p (suc i) ≡ q i) → (n : ℕ) → any_below p (suc n) ≡ any_below q n
any_shifted p q none same zero = none
any_shifted p q none same (suc n) = let a = any_shifted p q none same n in let b = same n in λ i. a i || b i

between_shifted : (p q : ℕ → Bool) → p 0 ≡ false → ((i : ℕ) → p (suc i) ≡ q i) → (j n : ℕ) → any_between p (suc j) (suc n) ≡ any_between q j n
between_shifted p q none same j n = any_shifted (λ k. nat_lt (suc j) k && p k) (λ k. nat_lt j k && q k) (first none) (λ k. (let e = less j k in let h = same k in λ i. e i && h i)) n
  where
    less : (j k : ℕ) → nat_lt (suc j) (suc k) ≡ nat_lt j k
    less j k = grind (arith, nat_tests)

    first : p 0 ≡ false → (nat_lt (suc j) 0 && p 0) ≡ false
    first h = ap (λ (b : Bool). nat_lt (suc j) 0 && b) h ∙ by (nat_lt (suc j) 0)
      where
        by : (b : Bool) → (b && false) ≡ false
        by true = refl
        by false = refl

pub since_shifted : (m m' r r' : ℕ → Bool) → m' 0 ≡ false → ((i : ℕ) → m' (suc i) ≡ m i) → r' 0 ≡ false → ((i : ℕ) → r' (suc i) ≡ r i) → (n : ℕ) → since m' r' (suc n) ≡ since m r n
since_shifted m m' r r' m0 ms r0 rs n =
    any_shifted (λ j. m' j && not (any_between r' j (suc n))) (λ j. m j && not (any_between r j n))
    (ap (λ (b : Bool). b && not (any_between r' 0 (suc n))) m0)
    (λ j. (let e = ms j in let h = between_shifted r' r r0 rs j n in λ i. e i && not (h i))) n
