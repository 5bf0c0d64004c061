-- Letters in either case.
use Rattle.std.proofs.Common.{◌≡◌, refl, arith, sym, ◌∙◌, ap, ℕ, zero, suc, ◌+◌, ◌-◌, ◌%◌, ◌<◌, List, [], ◌∷◌, map, length, Bool, true, eqb, slice_index}
use Rattle.std.specs.Bool.{Decides}
use Rattle.std.proofs.lemmas.Bool.{agree_below, agree_below_at}
use Rattle.std.proofs.lemmas.Bool.Decides.{Decides-like, same_from_decides, nat_tests}
use Rattle.std.proofs.lemmas.List.{ext_get_or, length-map}
use Rattle.std.proofs.lemmas.Slice.Eq.{bytes_eq-Decides}
use Rattle.std.specs.Int.RustNames.{bit_and}
use Rattle.std.specs.Char.{to_ascii_lowercase, eq_ignore_ascii_case}
use Rattle.std.specs.Str.{str_eq_ignore_ascii_case}
use Rattle.sql_keyword.specs.Letters.{IsCapital, AreSame}
use Rattle.sql_keyword.proofs.Below.{all_below, below_so}

-- the two tests of a byte, at the letter that k letters come before
abbrev by_bits : ℕ → ℕ → Bool
by_bits b k = eqb (bit_and b 223) (65 + k)

abbrev by_case : ℕ → ℕ → Bool
by_case b k = eqb (to_ascii_lowercase b) (97 + k)

abbrev agrees_at : ℕ → Bool
agrees_at b = agree_below (by_bits b) (by_case b) 26

all_agree : all_below agrees_at 256 ≡ true
all_agree = refl

small : (t : ℕ) → IsCapital t → to_ascii_lowercase t ≡ t + 32
small t h = grind (arith, nat_tests)

pub is_letter : (b t : ℕ) → b < 256 → IsCapital t → eqb (bit_and b 223) t ≡ eq_ignore_ascii_case b t
is_letter b t l h =
    let within : t - 65 < 26 = omega arith in
    let capital : 65 + (t - 65) ≡ t = omega arith in
    let lower : 97 + (t - 65) ≡ to_ascii_lowercase t = omega (arith, small t h) in
    let same = agree_below_at (by_bits b) (by_case b) 26 (t - 65) (below_so agrees_at 256 b all_agree l) within in
    ap (eqb (bit_and b 223)) (sym capital) ∙ same ∙ ap (eqb (to_ascii_lowercase b)) lower

-- a letter's place in the alphabet is the same in either case
pub place : (b : ℕ) → to_ascii_lowercase b % 32 ≡ b % 32
place b = grind (arith, nat_tests)

pub lowered : (bs : List ℕ) (i : ℕ) → to_ascii_lowercase (slice_index bs i) ≡ slice_index (map to_ascii_lowercase bs) i
lowered [] zero = refl
lowered [] (suc i) = refl
lowered (b ∷ bs) zero = refl
lowered (b ∷ bs) (suc i) = lowered bs i

pub same_length : (a b : List ℕ) → map to_ascii_lowercase a ≡ map to_ascii_lowercase b → length a ≡ length b
same_length a b e = sym (length-map a to_ascii_lowercase) ∙ ap length e ∙ length-map b to_ascii_lowercase

pub same_at : (a b : List ℕ) → map to_ascii_lowercase a ≡ map to_ascii_lowercase b → (i : ℕ) → to_ascii_lowercase (slice_index a i) ≡ to_ascii_lowercase (slice_index b i)
same_at a b e i = lowered a i ∙ ap (λ l. slice_index l i) e ∙ sym (lowered b i)

all_same : (a b : List ℕ) → length a ≡ length b → AreSame a b 0 (length a) → map to_ascii_lowercase a ≡ map to_ascii_lowercase b
all_same a b n s =
    let lengths : length (map to_ascii_lowercase a) ≡ length (map to_ascii_lowercase b) = length-map a to_ascii_lowercase ∙ n ∙ sym (length-map b to_ascii_lowercase) in
    ext_get_or 0 (map to_ascii_lowercase a) (map to_ascii_lowercase b) lengths (λ i l.
    let within : i < length a = omega (arith, length-map a to_ascii_lowercase) in
    sym (lowered a i) ∙ s i (omega arith) within ∙ lowered b i)

-- all letters of two texts of one length
pub spelled : (a b : List ℕ) (x : Bool) → length a ≡ length b → Decides x (AreSame a b 0 (length a)) → x ≡ str_eq_ignore_ascii_case a b
spelled a b x n f =
    same_from_decides x (str_eq_ignore_ascii_case a b) f
    (Decides-like (str_eq_ignore_ascii_case a b) (λ e i from to. same_at a b e i) (all_same a b n)
    (bytes_eq-Decides (map to_ascii_lowercase a) (map to_ascii_lowercase b)))
