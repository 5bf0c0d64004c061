-- A name ends at the first colon before a digit.
use Rattle.std.proofs.Common.{◌≡◌, ◌∙◌, ℕ, zero, suc, ◌≤◌, Bool, true, false, ◌&&◌, ◌||◌, if◌then◌else◌, List, [], ◌∷◌, ◌++◌, All, ap, append_assoc, append-nil, arith, get_or, refl, sym}
use Rattle.std.specs.List.{list_all}
use Rattle.std.specs.Prelude.{◌==◌, nat_le, nat_lt}
use Rattle.std.proofs.lemmas.Bool.{and_from, and_left, and_parts, both_ways, cond-false, cond_both, false_from_ne_true, le-leb, leb-true, ltb-true, ne_eqb, or_from, or_parts, or_right}
use Rattle.std.proofs.lemmas.List.Elements.{All-head, All-tail}
use Rattle.check_print.specs.source_file.Escaped.{escaped_after, escaped_name, is_mark, is_number_mark}
use Rattle.check_print.specs.source_file.Shown.{escape, hex_digit}
use Rattle.law_printed_lines.proofs.Decimals.{IsDigit}
use Rattle.law_printed_lines.proofs.Escaping.{begins, first_cases, is_digit}

-- a colon before a digit is among these bytes
abbrev pub has_mark : List ℕ → Bool
has_mark [] = false
has_mark (a ∷ rest) = is_number_mark a (get_or rest 0 0) || has_mark rest

-- ---- a name as it is written has none

other : (a b : ℕ) (rest : List ℕ) → (a ≡ 58 → ⊥) → has_mark rest ≡ false → (is_number_mark a b || has_mark rest) ≡ false
other a b rest h e = or_from _ _ (and_left _ _ (and_left _ _ (ne_eqb a 58 h))) e

digits_free : (first rest : List ℕ) → list_all is_digit first ≡ true → has_mark rest ≡ false → has_mark (first ++ rest) ≡ false
digits_free [] rest e h = h
digits_free (d ∷ first) rest e h =
    let parts = and_parts (is_digit d) (list_all is_digit first) e in
    let high = leb-true d 57 (and_parts (nat_le 48 d) (nat_le d 57) parts.0).1 in
    other d (get_or (first ++ rest) 0 0) (first ++ rest) (λ f. omega arith) (digits_free first rest parts.1 h)

last_other : (n : ℕ) → hex_digit n ≡ 58 → ⊥
last_other n = cond_both (nat_lt n 10) _ _ (λ d. d ≡ 58 → ⊥) (λ e f. omega (arith, ltb-true n 10 e)) (λ e f. omega arith)

escape_free : (first rest : List ℕ) (n : ℕ) → list_all is_digit first ≡ true → has_mark rest ≡ false → has_mark (escape first n ++ rest) ≡ false
escape_free first rest n e h =
    ap has_mark (append_assoc first (hex_digit n ∷ 125 ∷ []) rest) ∙ digits_free first (hex_digit n ∷ 125 ∷ rest) e (other (hex_digit n) 125 (125 ∷ rest) (last_other n) h)

-- a colon as it is has no digit after it
colon_free : (a : ℕ) (rest : List ℕ) → is_mark true a (get_or rest 0 0) ≡ false → is_number_mark a (get_or (escaped_name rest) 0 0) ≡ false
colon_free a rest e =
    let line = escaped_name rest in
    let b = get_or line 0 0 in
    false_from_ne_true _ (λ f.
    let outer = and_parts (a == 58 && nat_le 48 b) (nat_le b 57) f in
    let inner = and_parts (a == 58) (nat_le 48 b) outer.0 in
    let low = leb-true 48 b inner.1 in
    let high = leb-true b 57 outer.1 in
    let first : get_or rest 0 0 ≡ b = (begins true rest [] b (λ g. omega arith) (λ g. omega arith) (ap (λ l. get_or l 0 0) (append-nil line))).0 in
    both_ways _ e (ap (λ c. is_number_mark a c) first ∙ f))

name_free : (n : ℕ) (name : List ℕ) → has_mark (escaped_after true n name) ≡ false
unfolding escaped_after
name_free zero [] = refl
name_free (suc n) [] = refl
name_free (suc n) (a ∷ rest) = name_free n rest
name_free zero (a ∷ rest) =
    let later : (k : ℕ) → has_mark (escaped_after true k rest) ≡ false = λ k. name_free k rest in
    first_cases true a rest (λ l k. has_mark (l ++ escaped_after true k rest) ≡ false)
    (λ first n k digits low text. escape_free first (escaped_after true k rest) n digits (later k))
    (λ _ _ _ plain begun mark. or_from _ _ (colon_free a rest mark) (later 0))

pub written_free : (name : List ℕ) → has_mark (escaped_name name) ≡ false
written_free name = name_free 0 name

-- ---- where it ends

-- a digit comes first
abbrev pub BeginsWithDigit : List ℕ → Type 0
BeginsWithDigit l = IsDigit (get_or l 0 0)

is_mark_true : (d : ℕ) → IsDigit d → is_number_mark 58 d ≡ true
is_mark_true d h = and_from (nat_le 48 d) (nat_le d 57) (le-leb 48 d h.0) (le-leb d 57 h.1)

-- a colon before the mark is no mark
early : (y : ℕ) (ys r s : List ℕ) → has_mark (y ∷ ys) ≡ false → BeginsWithDigit r → 58 ∷ r ≡ (y ∷ ys) ++ 58 ∷ s → ⊥
early y [] r s k h e =
    let first : get_or r 0 0 ≡ 58 = ap (λ l. get_or l 1 0) e in
    omega arith
early y (z ∷ ys) r s k h e =
    let colon : 58 ≡ y = ap (λ l. get_or l 0 0) e in
    let first : get_or r 0 0 ≡ z = ap (λ l. get_or l 1 0) e in
    let parts = or_parts (is_number_mark y z) (has_mark (z ∷ ys)) k in
    let mark : is_number_mark y z ≡ true = ap (λ c. is_number_mark c z) (sym colon) ∙ is_mark_true z ((omega arith, omega arith)) in
    both_ways _ parts.0 mark

pub split_mark : (xs ys r s : List ℕ) → has_mark xs ≡ false → has_mark ys ≡ false → BeginsWithDigit r → BeginsWithDigit s → xs ++ 58 ∷ r ≡ ys ++ 58 ∷ s → (xs ≡ ys) × (r ≡ s)
split_mark [] [] r s h k p q e = (refl, (cc))
split_mark [] (y ∷ ys) r s h k p q e = absurd (early y ys r s k p e)
split_mark (x ∷ xs) [] r s h k p q e = absurd (early x xs s r h q (sym e))
split_mark (x ∷ xs) (y ∷ ys) r s h k p q e =
    let left = or_parts (is_number_mark x (get_or xs 0 0)) (has_mark xs) h in
    let right = or_parts (is_number_mark y (get_or ys 0 0)) (has_mark ys) k in
    let later = split_mark xs ys r s left.1 right.1 p q (cc) in
    let same : x ≡ y = cc in
    (ap (λ z. z ∷ xs) same ∙ ap (λ l. y ∷ l) later.0, later.1)

-- ---- on the first line

-- a colon before a digit is on the first line
abbrev pub line_marked : List ℕ → Bool
line_marked [] = false
line_marked (a ∷ rest) = if a == 10 then false else (is_number_mark a (get_or rest 0 0) || line_marked rest)

-- that of a finding has one
pub finding_marked : (xs r : List ℕ) → All (λ b. 32 ≤ b) xs → BeginsWithDigit r → line_marked (xs ++ 58 ∷ r) ≡ true
finding_marked [] r h d = ap (λ b. b || line_marked r) (is_mark_true (get_or r 0 0) d)
finding_marked (x ∷ xs) r h d =
    let P : ℕ → Type 0 = λ b. 32 ≤ b in
    let low = All-head P x xs h in
    cond-false (x == 10) _ _ (ne_eqb x 10 (λ e. omega arith)) ∙ or_right _ _ (finding_marked xs r (All-tail P x xs h) d)

-- where there is no colon, there is none
pub plain_unmarked : (xs r : List ℕ) → All (λ b. b ≡ 58 → ⊥) xs → line_marked (xs ++ 10 ∷ r) ≡ false
plain_unmarked [] r h = refl
plain_unmarked (x ∷ xs) r h =
    let P : ℕ → Type 0 = λ b. b ≡ 58 → ⊥ in
    cond_both (x == 10) _ _ (λ b. b ≡ false) (λ e. refl)
    (λ e. or_from _ _ (and_left _ _ (and_left _ _ (ne_eqb x 58 (All-head P x xs h)))) (plain_unmarked xs r (All-tail P x xs h)))

-- nor where a blank comes after the only colon
pub blank_unmarked : (xs r : List ℕ) → All (λ b. b ≡ 58 → ⊥) xs → line_marked r ≡ false → line_marked (xs ++ 58 ∷ 32 ∷ r) ≡ false
blank_unmarked [] r h e = e
blank_unmarked (x ∷ xs) r h e =
    let P : ℕ → Type 0 = λ b. b ≡ 58 → ⊥ in
    cond_both (x == 10) _ _ (λ b. b ≡ false) (λ f. refl)
    (λ f. or_from _ _ (and_left _ _ (and_left _ _ (ne_eqb x 58 (All-head P x xs h)))) (blank_unmarked xs r (All-tail P x xs h) e))
