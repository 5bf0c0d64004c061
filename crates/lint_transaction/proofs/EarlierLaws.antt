-- How a test on earlier numbers goes on by one number.
use Rattle.std.specs.Prelude.{◌≡◌, ℕ, zero, suc, ◌<◌, Bool, true, false, ◌&&◌, ◌||◌, not, nat_lt, refl}
use Rattle.std.proofs.Common.{◌∙◌, ap, arith}
use Rattle.std.proofs.lemmas.Bool.{lt-ltb, le-ltb}
use Rattle.lint_transaction.specs.Earlier.{any_below, any_between, since}

pub any_below_same : (p q : ℕ → Bool) (n : ℕ) → ((k : ℕ) → k < n → p k ≡ q k) → any_below p n ≡ any_below q n
any_below_same p q zero h = refl
any_below_same p q (suc n) h =
    let front = any_below_same p q n (λ k l. h k (omega arith)) in let last = h n (omega arith) in cc

pub any_below_none : (p : ℕ → Bool) (n : ℕ) → ((k : ℕ) → k < n → p k ≡ false) → any_below p n ≡ false
any_below_none p zero h = refl
any_below_none p (suc n) h =
    let front = any_below_none p n (λ k l. h k (omega arith)) in let last = h n (omega arith) in rw (front, last) refl

and_or : (a b r : Bool) → ((a && r) || (b && r)) ≡ ((a || b) && r)
and_or true true true = refl
and_or true true false = refl
and_or true false true = refl
and_or true false false = refl
and_or false true true = refl
and_or false true false = refl
and_or false false true = refl
and_or false false false = refl

and_not_or : (a b r : Bool) → (a && not (b || r)) ≡ ((a && not b) && not r)
and_not_or true true true = refl
and_not_or true true false = refl
and_not_or true false true = refl
and_not_or true false false = refl
and_not_or false b r = refl

pub or_swap : (a b : Bool) → (a || b) ≡ (b || a)
or_swap true true = refl
or_swap true false = refl
or_swap false true = refl
or_swap false false = refl

pub and_true : (a : Bool) → (a && true) ≡ a
and_true true = refl
and_true false = refl

pub any_below_and : (p : ℕ → Bool) (r : Bool) (n : ℕ) → any_below (λ k. p k && r) n ≡ (any_below p n && r)
any_below_and p r zero = refl
any_below_and p r (suc n) = ap (λ b. b || (p n && r)) (any_below_and p r n) ∙ and_or (any_below p n) (p n) r

-- no number is between a number and the next one
pub any_between-next : (reset : ℕ → Bool) (i : ℕ) → any_between reset i (suc i) ≡ false
any_between-next reset i =
    any_below_none (λ k. nat_lt i k && reset k) (suc i) (λ k l. ap (λ b. b && reset k) (le-ltb i k (omega arith)))

-- some number above j and up to i passes
pub any_between-suc : (reset : ℕ → Bool) (j i : ℕ) → j < i → any_between reset j (suc i) ≡ (any_between reset j i || reset i)
any_between-suc reset j i l = ap (λ b. any_between reset j i || (b && reset i)) (lt-ltb j i l)

-- after number i: i is marked, or it was so before i and i does not reset
pub since-suc : (mark reset : ℕ → Bool) (i : ℕ) → since mark reset (suc i) ≡ (mark i || (since mark reset i && not (reset i)))
since-suc mark reset i =
    let last : (mark i && not (any_between reset i (suc i))) ≡ mark i =
    ap (λ b. mark i && not b) (any_between-next reset i) ∙ and_true (mark i)
    in
    let step : (j : ℕ) → j < i → (mark j && not (any_between reset j (suc i))) ≡ ((mark j && not (any_between reset j i)) && not (reset i)) =
    λ j l. ap (λ b. mark j && not b) (any_between-suc reset j i l) ∙ and_not_or (mark j) (any_between reset j i) (reset i)
    in
    let front : any_below (λ j. mark j && not (any_between reset j (suc i))) i ≡ (since mark reset i && not (reset i)) =
    any_below_same (λ j. mark j && not (any_between reset j (suc i))) (λ j. (mark j && not (any_between reset j i)) && not (reset i)) i step
    ∙ any_below_and (λ j. mark j && not (any_between reset j i)) (not (reset i)) i
    in
    ap (λ b. b || (mark i && not (any_between reset i (suc i)))) front
    ∙ (ap (λ b. (since mark reset i && not (reset i)) || b) last ∙ or_swap (since mark reset i && not (reset i)) (mark i))
