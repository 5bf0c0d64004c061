-- What begins with a printed piece begins with no other one, and goes on in one way.
use Rattle.std.proofs.Common.{◌≡◌, ℕ, ◌<◌, ◌≤◌, ◌^◌, List, [], ◌∷◌, ◌++◌, refl, ap, sym, ◌∙◌, append_assoc, arith, decimal, subst}
use Rattle.std.proofs.lemmas.Str.Parse.{IsDigitsTest, IsNumeralModel, numerals_by_value}
use Rattle.std.proofs.lemmas.Fmt.{digits_decimal, digits_value-decimal}
use Rattle.std.specs.Str.Parse.{digits_value}

abbrev pub AllOf : (ℕ → Type 0) → List ℕ → Type 0
AllOf P [] = Unit {0}
AllOf P (x ∷ xs) = P x × AllOf P xs

-- two texts that are cut before their first byte of another kind
pub cut : (P : ℕ → Type 0) (xs ys : List ℕ) (c d : ℕ) (r s : List ℕ) → AllOf P xs → AllOf P ys → (P c → ⊥) → (P d → ⊥)
    → xs ++ c ∷ r ≡ ys ++ d ∷ s → (xs ≡ ys) × (c ∷ r ≡ d ∷ s)
cut P [] [] c d r s hx hy nc nd e = (refl, e)
cut P [] (y ∷ ys) c d r s hx hy nc nd e = let h : c ≡ y = cc in absurd (nc (subst P (sym h) hy.0))
cut P (x ∷ xs) [] c d r s hx hy nc nd e = let h : x ≡ d = cc in absurd (nd (subst P h hx.0))
cut P (x ∷ xs) (y ∷ ys) c d r s hx hy nc nd e =
    let t : xs ++ c ∷ r ≡ ys ++ d ∷ s = cc in
    let h : x ≡ y = cc in
    let k = cut P xs ys c d r s hx.1 hy.1 nc nd t in
    let k0 : xs ≡ ys = k.0 in
    (cc, k.1)

abbrev pub IsDigit : ℕ → Type 0
IsDigit c = (48 ≤ c) × (c ≤ 57)

digits_test : IsDigitsTest (AllOf IsDigit)
digits_test = record { empty = tt; parts = λ c cs h. h; more = λ c cs a b. (a, b) }

pub own : IsNumeralModel (AllOf IsDigit) (digits_value 10)
own = numerals_by_value (AllOf IsDigit) digits_test

pub decimal-injective : (m n : ℕ) → m < 2 ^ 64 → n < 2 ^ 64 → decimal m ≡ decimal n → m ≡ n
decimal-injective m n hm hn e = sym (digits_value-decimal own m hm) ∙ ap (digits_value 10) e ∙ digits_value-decimal own n hn

-- a number, and then a byte that is no digit
pub decimal_cut : (m n c d : ℕ) (r s : List ℕ) → m < 2 ^ 32 → n < 2 ^ 32 → (IsDigit c → ⊥) → (IsDigit d → ⊥)
    → decimal m ++ c ∷ r ≡ decimal n ++ d ∷ s → (m ≡ n) × (c ∷ r ≡ d ∷ s)
decimal_cut m n c d r s hm hn nc nd e =
    let gm : m < 2 ^ 64 = omega arith in
    let gn : n < 2 ^ 64 = omega arith in
    let k = cut IsDigit (decimal m) (decimal n) c d r s (digits_decimal own m gm) (digits_decimal own n gn) nc nd e in
    (decimal-injective m n gm gn k.0, k.1)

pub four_joined : (to a b c d : List ℕ) → (((to ++ a) ++ b) ++ c) ++ d ≡ to ++ (a ++ b ++ c ++ d)
four_joined to a b c d = simp append_assoc
