-- Where texts may be cut in one way alone.
use Rattle.std.proofs.Common.{◌≡◌, ◌≢◌, ◌<◌, ◌^◌, ℕ, List, [], ◌∷◌, ◌++◌, length, refl, arith, decimal}
use Rattle.std.specs.Prelude.{All}
use Rattle.std.specs.Int.{IsInRange}
use Rattle.std.specs.Str.Parse.{digits_value}
use Rattle.std.proofs.lemmas.Fmt.{decimal_injective, digits_decimal}
use Rattle.std.proofs.lemmas.List.Elements.{All-cons, All-head, All-nil, All-tail, All-weaker}
use Rattle.std.proofs.lemmas.Str.Parse.{IsDigitsTest, IsNumeralModel, numerals_by_value}

-- before the first byte of a kind
pub one_cut : (c : ℕ) (xs ys r s : List ℕ) → All (λ b. b ≢ c) xs → All (λ b. b ≢ c) ys → xs ++ c ∷ r ≡ ys ++ c ∷ s → (xs ≡ ys) × (r ≡ s)
one_cut c [] [] r s hx hy e = (refl, cc)
one_cut c [] (y ∷ ys) r s hx hy e = let h : y ≡ c = cc in absurd (All-head (λ b. b ≢ c) y ys hy h)
one_cut c (x ∷ xs) [] r s hx hy e = let h : x ≡ c = cc in absurd (All-head (λ b. b ≢ c) x xs hx h)
one_cut c (x ∷ xs) (y ∷ ys) r s hx hy e =
    let t : xs ++ c ∷ r ≡ ys ++ c ∷ s = cc in
    let h : x ≡ y = cc in
    let k = one_cut c xs ys r s (All-tail (λ b. b ≢ c) x xs hx) (All-tail (λ b. b ≢ c) y ys hy) t in
    (λ i. h i ∷ k.0 i, k.1)

-- behind so many bytes
pub same_fronts : (xs ys r s : List ℕ) → length xs ≡ length ys → xs ++ r ≡ ys ++ s → (xs ≡ ys) × (r ≡ s)
same_fronts [] [] r s l e = (refl, e)
same_fronts [] (y ∷ ys) r s l e = absurd (omega (arith, l))
same_fronts (x ∷ xs) [] r s l e = absurd (omega (arith, l))
same_fronts (x ∷ xs) (y ∷ ys) r s l e =
    let t : xs ++ r ≡ ys ++ s = cc in
    let h : x ≡ y = cc in
    let k = same_fronts xs ys r s (omega (arith, l)) t in
    (λ i. h i ∷ k.0 i, k.1)

-- ---- numbers

abbrev AreDigits : List ℕ → Type 0
AreDigits = All (IsInRange 48 57)

digits_test : IsDigitsTest AreDigits
digits_test = record {
  empty = All-nil (IsInRange 48 57);
  parts = λ c cs h. (All-head (IsInRange 48 57) c cs h, All-tail (IsInRange 48 57) c cs h);
  more = λ c cs. All-cons (IsInRange 48 57) c cs;
}

own : IsNumeralModel AreDigits (digits_value 10)
own = numerals_by_value AreDigits digits_test

-- no digit is a blank
pub no_blank : (n : ℕ) → n < 2 ^ 64 → All (λ b. b ≢ 32) (decimal n)
no_blank n h = All-weaker (IsInRange 48 57) (λ b. b ≢ 32) (λ b d e. omega (arith, d.0, e)) (decimal n) (digits_decimal own n h)

-- a number and the blank behind it
pub one_number : (m n : ℕ) (r s : List ℕ) → m < 2 ^ 64 → n < 2 ^ 64 → decimal m ++ 32 ∷ r ≡ decimal n ++ 32 ∷ s → (m ≡ n) × (r ≡ s)
one_number m n r s hm hn e =
    let k = one_cut 32 (decimal m) (decimal n) r s (no_blank m hm) (no_blank n hn) e in
    (decimal_injective m n hm hn k.0, k.1)
