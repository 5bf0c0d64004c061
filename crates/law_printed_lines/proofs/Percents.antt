-- What GitHub's format writes by per cent signs can be read back.
use Rattle.std.proofs.Common.{◌≡◌, ◌∙◌, ℕ, zero, suc, ◌+◌, ◌*◌, ◌-◌, Bool, true, false, ◌&&◌, not, if◌then◌else◌, List, [], ◌∷◌, ◌++◌, All, ap, arith, get_or, refl, sym}
use Rattle.std.specs.List.{flat_map, list_all}
use Rattle.std.specs.Prelude.{◌==◌, codes, nat_lt}
use Rattle.std.proofs.lemmas.Bool.{and_parts, cond-false, cond_both, eqb-false, eqb-true, not-true}
use Rattle.std.proofs.lemmas.List.Elements.{All-append, All-cons, All-nil}
use Rattle.check_print.specs.report_lines.Github.{encoded_byte, property, property_byte}
use Rattle.law_printed_lines.proofs.Escaping.{HoldsOfEscapes, written_each, written_same}
use Rattle.law_printed_lines.proofs.Tests.{all_from_test}

-- ---- reading

-- the value of a digit of base 16, in capital letters
abbrev capital_of : ℕ → ℕ
capital_of d = if nat_lt d 58 then d - 48 else d - 55

-- what such a text was written from, with so many bytes to pass over
unfoldable decoded_on : ℕ → List ℕ → List ℕ
decoded_on n [] = []
decoded_on (suc n) (a ∷ rest) = decoded_on n rest
decoded_on zero (a ∷ rest) =
    if a == 37 then (capital_of (get_or rest 0 0) * 16 + capital_of (get_or rest 1 0)) ∷ decoded_on 2 rest else a ∷ decoded_on 0 rest

-- a way to write bytes that can be read back
abbrev Decodes : (ℕ → List ℕ) → Type 0
Decodes f = (b : ℕ) (rest : List ℕ) → decoded_on 0 (f b ++ rest) ≡ b ∷ decoded_on 0 rest

encoded_decodes : Decodes encoded_byte
unfolding decoded_on
encoded_decodes b rest =
    let P : List ℕ → Type 0 = λ l. decoded_on 0 (l ++ rest) ≡ b ∷ decoded_on 0 rest in
    cond_both (b == 37) _ _ P (λ e. ap (λ c. c ∷ decoded_on 0 rest) (sym (eqb-true b 37 e)))
    (λ plain. cond_both (b == 13) _ _ P (λ e. ap (λ c. c ∷ decoded_on 0 rest) (sym (eqb-true b 13 e)))
    (λ _. cond_both (b == 10) _ _ P (λ e. ap (λ c. c ∷ decoded_on 0 rest) (sym (eqb-true b 10 e))) (λ _. cond-false (b == 37) _ _ plain)))

property_decodes : Decodes property_byte
unfolding decoded_on
property_decodes b rest =
    let P : List ℕ → Type 0 = λ l. decoded_on 0 (l ++ rest) ≡ b ∷ decoded_on 0 rest in
    cond_both (b == 58) _ _ P (λ e. ap (λ c. c ∷ decoded_on 0 rest) (sym (eqb-true b 58 e)))
    (λ _. cond_both (b == 44) _ _ P (λ e. ap (λ c. c ∷ decoded_on 0 rest) (sym (eqb-true b 44 e))) (λ _. encoded_decodes b rest))

flat_decoded : (f : ℕ → List ℕ) → Decodes f → (text : List ℕ) → decoded_on 0 (flat_map f text) ≡ text
unfolding decoded_on
flat_decoded f decodes [] = refl
flat_decoded f decodes (b ∷ text) = decodes b (flat_map f text) ∙ ap (λ l. b ∷ l) (flat_decoded f decodes text)

flat_same : (f : ℕ → List ℕ) → Decodes f → (x y : List ℕ) → flat_map f x ≡ flat_map f y → x ≡ y
flat_same f decodes x y e = sym (flat_decoded f decodes x) ∙ ap (decoded_on 0) e ∙ flat_decoded f decodes y

pub encoded_flat_same : (x y : List ℕ) → flat_map encoded_byte x ≡ flat_map encoded_byte y → x ≡ y
encoded_flat_same x y e = flat_same encoded_byte encoded_decodes x y e

pub property_same : (x y : List ℕ) → property x ≡ property y → x ≡ y
unfolding property
property_same x y e = flat_same property_byte property_decodes x y (written_same false (flat_map property_byte x) (flat_map property_byte y) e)

-- ---- bytes that are not in a property

-- no comma and no colon
abbrev pub IsInside : ℕ → Type 0
IsInside b = (b ≡ 44 → ⊥) × (b ≡ 58 → ⊥)

abbrev is_inside : ℕ → Bool
is_inside b = not (b == 44) && not (b == 58)

is_inside_true : (b : ℕ) → is_inside b ≡ true → IsInside b
is_inside_true b e =
    let parts = and_parts (not (b == 44)) (not (b == 58)) e in
    (eqb-false b 44 (not-true (b == 44) parts.0), eqb-false b 58 (not-true (b == 58) parts.1))

inside : (text : List ℕ) → list_all is_inside text ≡ true → All IsInside text
inside text e = all_from_test IsInside is_inside is_inside_true text e

encoded_inside : (b : ℕ) → IsInside b → All IsInside (encoded_byte b)
encoded_inside b h =
    cond_both (b == 37) _ _ (All IsInside) (λ e. inside (codes "%25") refl)
    (λ _. cond_both (b == 13) _ _ (All IsInside) (λ e. inside (codes "%0D") refl)
    (λ _. cond_both (b == 10) _ _ (All IsInside) (λ e. inside (codes "%0A") refl) (λ _. All-cons IsInside b [] h (All-nil IsInside))))

byte_inside : (b : ℕ) → All IsInside (property_byte b)
byte_inside b =
    cond_both (b == 58) _ _ (All IsInside) (λ e. inside (codes "%3A") refl)
    (λ colon. cond_both (b == 44) _ _ (All IsInside) (λ e. inside (codes "%2C") refl)
    (λ comma. encoded_inside b (eqb-false b 44 comma, eqb-false b 58 colon)))

bytes_inside : (text : List ℕ) → All IsInside (flat_map property_byte text)
bytes_inside [] = All-nil IsInside
bytes_inside (b ∷ text) = All-append IsInside (property_byte b) (flat_map property_byte text) (byte_inside b) (bytes_inside text)

inside_escapes : HoldsOfEscapes IsInside
inside_escapes = record {
  backslash = (λ e. omega arith, λ e. omega arith);
  letter = (λ e. omega arith, λ e. omega arith);
  opening = (λ e. omega arith, λ e. omega arith);
  closing = (λ e. omega arith, λ e. omega arith);
  digit = λ d low high. (λ e. omega arith, λ e. omega arith);
  late_digit = λ d low high. (λ e. omega arith, λ e. omega arith);
}

pub property_inside : (text : List ℕ) → All IsInside (property text)
unfolding property
property_inside text =
    written_each IsInside IsInside inside_escapes (λ b plain h. h) false 0 (flat_map property_byte text) (bytes_inside text)
