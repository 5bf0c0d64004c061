-- A letter and then a number is a word, and no key word.
use Rattle.std.proofs.Common.{◌≡◌, ◌∙◌, ℕ, suc, ◌+◌, ◌<◌, ◌≤◌, ◌^◌, Bool, true, false, cond, List, [], ◌∷◌, length, refl, ap, sym, arith, decimal, Option, Some, None}
use Rattle.std.proofs.lemmas.Bool.{and_parts}
use Rattle.std.proofs.lemmas.Bool.Decides.{nat_tests}
use Rattle.std.proofs.lemmas.Fmt.{decimal_is_IsNumeral}
use Rattle.std.proofs.lemmas.Str.Parse.{digit_from_value}
use Rattle.std.specs.Char.{is_ascii_digit, to_ascii_lowercase}
use Rattle.std.specs.List.{find, list_all}
use Rattle.std.specs.Prelude.{◌==◌, ◌&&◌, not, nat_eq, map}
use Rattle.std.specs.Str.{str_eq_ignore_ascii_case}
use Rattle.std.specs.Str.Parse.{AllDigits}
use lib.Pointwise.{pointwise}
use Rattle.law_joined_texts.specs.sql_keyword.declared.words.Keyword.{Keyword}
use Rattle.law_joined_texts.specs.sql_keyword.Find.{keyword_of}
use Rattle.law_joined_texts.specs.sql_keyword.Texts.{all_keywords, text}
use Rattle.law_joined_texts.specs.sql_token.Token.{begins_word, is_word}
use Rattle.law_joined_texts.specs.law_edit_tokens.Exchange.{IsPlainWord}

-- at least one byte, and each is a digit
pub record IsNumber (number : List ℕ) : Type 0 where
  pub some : 0 < length number
  pub digits : list_all is_ascii_digit number ≡ true

digit_is : (b : ℕ) → 48 ≤ b → b ≤ 57 → is_ascii_digit b ≡ true
digit_is b h l = grind (arith, nat_tests)

all_digits : (ds : List ℕ) → AllDigits 10 ds → list_all is_ascii_digit ds ≡ true
all_digits [] h = refl
all_digits (d ∷ ds) h = let r = digit_from_value d h.0 in let here = digit_is d (omega arith) (omega arith) in λ i. here i && all_digits ds h.1 i

pub decimal_number : (n : ℕ) → n < 2 ^ 64 → IsNumber (decimal n)
decimal_number n h = let numeral = decimal_is_IsNumeral n h in record { some = numeral.0.0; digits = all_digits (decimal n) numeral.0.1 }

-- ---- a word

digit_in_word : (b : ℕ) → is_ascii_digit b ≡ true → is_word b ≡ true
digit_in_word b h = grind (arith, nat_tests)

digits_in_word : (ds : List ℕ) → list_all is_ascii_digit ds ≡ true → list_all is_word ds ≡ true
digits_in_word [] h = refl
digits_in_word (d ∷ ds) h =
    let both = and_parts (is_ascii_digit d) (list_all is_ascii_digit ds) h in
    let here = digit_in_word d both.0 in
    let rest = digits_in_word ds both.1 in
    λ i. here i && rest i

letter_in_word : (b : ℕ) → begins_word b ≡ true → is_word b ≡ true
letter_in_word b h = grind (arith, nat_tests)

pub name_plain : (b : ℕ) (number : List ℕ) → begins_word b ≡ true → b < 128 → IsNumber number → IsPlainWord (b ∷ number)
name_plain b number letter low is =
    let first = letter_in_word b letter in
    let rest = digits_in_word number is.digits in
    record {
      bytes = λ i. first i && rest i;
      begins = letter;
      ascii = low;
      long = let some = is.some in omega arith;
    }

-- ---- no key word

-- the second byte is there and is no digit
abbrev differs : List ℕ → Bool
differs [] = true
differs (b ∷ []) = true
differs (b ∷ c ∷ rest) = not (is_ascii_digit (to_ascii_lowercase c))

all_differ : list_all (λ (k : Keyword). differs (text k)) all_keywords ≡ true
unfolding text all_keywords
all_differ = refl

and_false : (p q : Bool) → q ≡ false → (p && q) ≡ false
and_false true q h = h
and_false false q h = refl

other_byte : (c d : ℕ) → is_ascii_digit d ≡ true → not (is_ascii_digit (to_ascii_lowercase c)) ≡ true → nat_eq (to_ascii_lowercase d) (to_ascii_lowercase c) ≡ false
other_byte c d h l = grind (arith, nat_tests)

differs_so : (b d : ℕ) (ds word : List ℕ) → is_ascii_digit d ≡ true → differs word ≡ true → str_eq_ignore_ascii_case (b ∷ d ∷ ds) word ≡ false
differs_so b d ds [] digit h = refl
differs_so b d ds (x ∷ []) digit h = and_false (nat_eq (to_ascii_lowercase b) (to_ascii_lowercase x)) false refl
differs_so b d ds (x ∷ y ∷ word) digit h =
    let other = other_byte y d digit h in
    and_false (nat_eq (to_ascii_lowercase b) (to_ascii_lowercase x)) _
    (λ i. other i && pointwise nat_eq (map to_ascii_lowercase ds) (map to_ascii_lowercase word))

none_found : (b d : ℕ) (ds : List ℕ) → is_ascii_digit d ≡ true → (ks : List Keyword) → list_all (λ (k : Keyword). differs (text k)) ks ≡ true → find (λ k. str_eq_ignore_ascii_case (b ∷ d ∷ ds) (text k)) ks ≡ None
none_found b d ds digit [] h = refl
none_found b d ds digit (k ∷ ks) h =
    let both = and_parts (differs (text k)) (list_all (λ (k : Keyword). differs (text k)) ks) h in
    let here = differs_so b d ds (text k) digit both.0 in
    let rest = none_found b d ds digit ks both.1 in
    λ i. cond (here i) (Some k) (rest i)

pub name_free : (b : ℕ) (number : List ℕ) → IsNumber number → keyword_of (b ∷ number) ≡ None
unfolding keyword_of
name_free b [] is = let some = is.some in absurd (omega arith)
name_free b (d ∷ ds) is = none_found b d ds (and_parts (is_ascii_digit d) (list_all is_ascii_digit ds) is.digits).0 all_keywords all_differ
