-- The digits of a number.
use Rattle.std.proofs.Common.{◌≡◌, ℕ, ◌<◌, ◌≤◌, ◌^◌, List, [], ◌∷◌, ◌++◌, All, arith, get_or, length}
use Rattle.std.specs.Fmt.{decimal}
use Rattle.std.specs.Str.Parse.{AllDigits}
use Rattle.std.proofs.lemmas.Fmt.{decimal_is_IsNumeral}
use Rattle.std.proofs.lemmas.List.Elements.{All-cons, All-head, All-nil, All-weaker}
use Rattle.std.proofs.lemmas.Str.Parse.{tells_digits}

-- a digit
abbrev pub IsDigit : ℕ → Type 0
IsDigit d = (48 ≤ d) × (d ≤ 57)

all_digits : (ds : List ℕ) → AllDigits 10 ds → All IsDigit ds
all_digits [] h = All-nil IsDigit
all_digits (d ∷ ds) h =
    let parts = tells_digits.parts d ds h in
    All-cons IsDigit d ds parts.0 (all_digits ds parts.1)

pub decimal_digits : (n : ℕ) → n < 2 ^ 64 → All IsDigit (decimal n)
decimal_digits n h = all_digits (decimal n) (decimal_is_IsNumeral n h).0.1

-- no other byte is among them
pub decimal_free : (m n : ℕ) → (IsDigit m → ⊥) → n < 2 ^ 64 → All (λ d. d ≡ m → ⊥) (decimal n)
decimal_free m n h low =
    All-weaker IsDigit (λ d. d ≡ m → ⊥) (λ d is e. h ((omega arith, omega arith))) (decimal n) (decimal_digits n low)

first_of : (ds rest : List ℕ) → 0 < length ds → All IsDigit ds → IsDigit (get_or (ds ++ rest) 0 0)
first_of [] rest h all = absurd (omega arith)
first_of (d ∷ ds) rest h all = All-head IsDigit d ds all

-- they begin with a digit, whatever comes after them
pub decimal_first : (n : ℕ) (rest : List ℕ) → n < 2 ^ 64 → IsDigit (get_or (decimal n ++ rest) 0 0)
decimal_first n rest h = first_of (decimal n) rest (decimal_is_IsNumeral n h).0.0 (decimal_digits n h)
