-- Numbers, by what parsing a text gives.
use Rattle.std.proofs.Common.{◌≡◌, ℕ, ◌<◌, ◌^◌, nat_lt, nat_le, true, false, List, Some, None, Result, Ok, Err, length, refl, ap, subst, rules, arith, ℤ, w32, inl, inr}
use Rattle.std.specs.Char.{is_ascii_digit}
use Rattle.std.specs.List.{list_all}
use Rattle.std.specs.Result.{result_ok}
use Rattle.std.specs.Str.Parse.{ParsesSigned, ParsesUnsigned, digits_value}
use Rattle.std.proofs.lemmas.Bool.{and_parts, cases_lt, lt-ltb, le-ltb, lt-leb}
use Rattle.std.proofs.lemmas.Str.Parse.{IsDigitsTest, IsNumeralModel, numerals_by_value, parse_digits, parse_signed_digits}
use Rattle.squawk_words.specs.Choices.{groups, is_numeral, number}

are_digits : IsDigitsTest (λ text. list_all is_ascii_digit text ≡ true)
are_digits = search rules

own : IsNumeralModel (λ text. list_all is_ascii_digit text ≡ true) (digits_value 10)
own = numerals_by_value _ are_digits

some_digits : (text : List ℕ) → is_numeral text ≡ true → 0 < length text
some_digits text is = let some : nat_lt 0 (length text) ≡ true = (and_parts _ _ (and_parts _ _ is).0).0 in grind arith

digits_alone : (text : List ℕ) → is_numeral text ≡ true → list_all is_ascii_digit text ≡ true
digits_alone text is = (and_parts _ _ is).1

pub parsed_number : {E : Type 0} (text : List ℕ) (r : Result ℤ E) → ParsesSigned w32 10 text r → is_numeral text ≡ true → result_ok r ≡ number text
parsed_number {E} text (Ok x) h is =
    let p = parse_signed_digits own {E = E} w32 text (Ok x) h (digits_alone text is) in
    let small : nat_lt (digits_value 10 text) (2 ^ 31) ≡ true = lt-ltb (digits_value 10 text) (2 ^ 31) p.0.1 in
    rw (is, small) (ap (λ n. Some n) p.1)
parsed_number {E} text (Err e) h is =
    let p = parse_signed_digits own {E = E} w32 text (Err e) h (digits_alone text is) in
    elim (cases_lt (digits_value 10 text) (2 ^ 31)) [
      | inl small ↦ absurd (p (some_digits text is, small))
      | inr large ↦ let big : nat_lt (digits_value 10 text) (2 ^ 31) ≡ false = le-ltb (digits_value 10 text) (2 ^ 31) large in rw (is, big) refl
    ]

-- a numeral that cannot be read is too large
pub unread_groups : {E : Type 0} (text : List ℕ) (r : Result ℕ E) (e : E) → ParsesUnsigned 32 10 text r → is_numeral text ≡ true → r ≡ Err e → None ≡ groups text
unread_groups {E} text r e h is refused =
    let p = parse_digits own {E = E} 32 text (Err e) (subst (ParsesUnsigned 32 10 text) refused h) (digits_alone text is) in
    elim (cases_lt 100000 (digits_value 10 text)) [
      | inl large ↦ let big : nat_le (digits_value 10 text) 100000 ≡ false = lt-leb (digits_value 10 text) 100000 large in rw (is, big) refl
      | inr few ↦ absurd (p (some_digits text is, omega arith))
    ]
