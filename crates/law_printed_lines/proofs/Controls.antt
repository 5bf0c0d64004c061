-- No control character is written on a line.
use Rattle.std.proofs.Common.{◌≡◌, ◌∙◌, ℕ, zero, suc, ◌+◌, ◌<◌, ◌≤◌, Bool, true, false, ◌&&◌, List, [], ◌∷◌, ◌++◌, ap, append-nil, append_assoc, arith, drop, get_or, refl, sym}
use Rattle.std.specs.List.{list_all}
use Rattle.std.specs.Prelude.{◌==◌, nat_le, nat_lt}
use Rattle.std.proofs.lemmas.Bool.{and_left, and_parts, both_ways, cond_both, eqb-true, false_from_ne_true, le-ltb, leb-true, ne_eqb, or_from}
use Rattle.std.proofs.lemmas.List.{get_or-drop}
use Rattle.check_print.specs.source_file.Escaped.{escaped_after}
use Rattle.check_print.specs.source_file.Shown.{escape, hex_digit, is_c1, is_embedding, is_isolate}
use Rattle.law_printed_lines.specs.Escapes.{has_control, is_control}
use Rattle.law_printed_lines.proofs.Escaping.{IsPlain, begins, first_cases, is_digit, written}

-- ---- escapes

pub control_from : (a b c : ℕ) → IsPlain a → is_c1 a b ≡ false → is_embedding a b c ≡ false → is_isolate a b c ≡ false → is_control a b c ≡ false
control_from a b c plain c1 embedding isolate =
    or_from _ _ (or_from _ _ (or_from _ _ (or_from _ _ (le-ltb a 32 plain.0) (ne_eqb a 127 plain.1)) c1) embedding) isolate

-- a letter, a digit or a sign of ASCII
pub ascii : (a b c : ℕ) → 32 ≤ a → a ≤ 126 → is_control a b c ≡ false
ascii a b c low high =
    control_from a b c (low, λ e. omega arith) (and_left _ _ (and_left _ _ (ne_eqb a 194 (λ e. omega arith))))
    (and_left _ _ (and_left _ _ (and_left _ _ (ne_eqb a 226 (λ e. omega arith)))))
    (and_left _ _ (and_left _ _ (and_left _ _ (ne_eqb a 226 (λ e. omega arith)))))

ascii_first : (a : ℕ) (rest : List ℕ) → 32 ≤ a → a ≤ 126 → has_control rest ≡ false → has_control (a ∷ rest) ≡ false
ascii_first a rest low high h = or_from _ _ (ascii a (get_or rest 0 0) (get_or rest 1 0) low high) h

digits_free : (first rest : List ℕ) → list_all is_digit first ≡ true → has_control rest ≡ false → has_control (first ++ rest) ≡ false
digits_free [] rest e h = h
digits_free (d ∷ first) rest e h =
    let parts = and_parts (is_digit d) (list_all is_digit first) e in
    let sides = and_parts (nat_le 48 d) (nat_le d 57) parts.0 in
    let low = leb-true 48 d sides.0 in
    let high = leb-true d 57 sides.1 in
    ascii_first d (first ++ rest) (omega arith) (omega arith) (digits_free first rest parts.1 h)

last_free : (n : ℕ) (rest : List ℕ) → n < 16 → has_control rest ≡ false → has_control (hex_digit n ∷ rest) ≡ false
last_free n rest low h =
    cond_both (nat_lt n 10) _ _ (λ d. has_control (d ∷ rest) ≡ false) (λ e. ascii_first (48 + n) rest (omega arith) (omega arith) h)
    (λ e. ascii_first (87 + n) rest (omega arith) (omega arith) h)

escape_free : (first rest : List ℕ) (n : ℕ) → n < 16 → list_all is_digit first ≡ true → has_control rest ≡ false → has_control (escape first n ++ rest) ≡ false
escape_free first rest n low e h =
    let end = last_free n (125 ∷ rest) low (ascii_first 125 rest (omega arith) (omega arith) h) in
    let digits = digits_free first (hex_digit n ∷ 125 ∷ rest) e end in
    let tail = first ++ hex_digit n ∷ 125 ∷ rest in
    let whole : has_control (92 ∷ 117 ∷ 123 ∷ tail) ≡ false =
    ascii_first 92 (117 ∷ 123 ∷ tail) (omega arith) (omega arith)
    (ascii_first 117 (123 ∷ tail) (omega arith) (omega arith) (ascii_first 123 tail (omega arith) (omega arith) digits)) in
    ap (λ l. has_control (92 ∷ 117 ∷ 123 ∷ l)) (append_assoc first (hex_digit n ∷ 125 ∷ []) rest) ∙ whole

-- ---- bytes as they are

-- bytes beyond ASCII that come first in what is written are those of the text
first_back : (marks : Bool) (rest : List ℕ) → 128 ≤ get_or (written marks rest) 0 0 → get_or rest 0 0 ≡ get_or (written marks rest) 0 0
first_back marks rest h =
    let line = written marks rest in
    (begins marks rest [] (get_or line 0 0) (λ g. omega arith) (λ g. omega arith) (ap (λ l. get_or l 0 0) (append-nil line))).0

second_back : (marks : Bool) (rest : List ℕ) → 128 ≤ get_or (written marks rest) 0 0 → 128 ≤ get_or (written marks rest) 1 0
    → get_or rest 1 0 ≡ get_or (written marks rest) 1 0
second_back marks rest h k =
    let line = written marks rest in
    let first = begins marks rest [] (get_or line 0 0) (λ g. omega arith) (λ g. omega arith) (ap (λ l. get_or l 0 0) (append-nil line)) in
    let second = begins marks (drop 1 rest) [] (get_or line 1 0) (λ g. omega arith) (λ g. omega arith) (sym first.1 ∙ ap (λ l. get_or l 1 0) (append-nil line)) in
    sym (get_or-drop 1 rest 0 0) ∙ second.0

c1_free : (marks : Bool) (a : ℕ) (rest : List ℕ) → is_c1 a (get_or rest 0 0) ≡ false → is_c1 a (get_or (written marks rest) 0 0) ≡ false
c1_free marks a rest e =
    let b = get_or (written marks rest) 0 0 in
    false_from_ne_true _ (λ f.
    let low = leb-true 128 b (and_parts (a == 194) (nat_le 128 b) (and_parts (a == 194 && nat_le 128 b) (nat_le b 159) f).0).1 in
    both_ways _ e (ap (is_c1 a) (first_back marks rest low) ∙ f))

embedding_free : (marks : Bool) (a : ℕ) (rest : List ℕ) → is_embedding a (get_or rest 0 0) (get_or rest 1 0) ≡ false
    → is_embedding a (get_or (written marks rest) 0 0) (get_or (written marks rest) 1 0) ≡ false
embedding_free marks a rest e =
    let b = get_or (written marks rest) 0 0 in
    let c = get_or (written marks rest) 1 0 in
    false_from_ne_true _ (λ f.
    let outer = and_parts (a == 226 && b == 128 && nat_le 170 c) (nat_le c 174) f in
    let inner = and_parts (a == 226 && b == 128) (nat_le 170 c) outer.0 in
    let is = eqb-true b 128 (and_parts (a == 226) (b == 128) inner.0).1 in
    let low = leb-true 170 c inner.1 in
    both_ways _ e (ap (λ n. is_embedding a n (get_or rest 1 0)) (first_back marks rest (omega arith))
    ∙ ap (λ n. is_embedding a b n) (second_back marks rest (omega arith) (omega arith)) ∙ f))

isolate_free : (marks : Bool) (a : ℕ) (rest : List ℕ) → is_isolate a (get_or rest 0 0) (get_or rest 1 0) ≡ false
    → is_isolate a (get_or (written marks rest) 0 0) (get_or (written marks rest) 1 0) ≡ false
isolate_free marks a rest e =
    let b = get_or (written marks rest) 0 0 in
    let c = get_or (written marks rest) 1 0 in
    false_from_ne_true _ (λ f.
    let outer = and_parts (a == 226 && b == 129 && nat_le 166 c) (nat_le c 169) f in
    let inner = and_parts (a == 226 && b == 129) (nat_le 166 c) outer.0 in
    let is = eqb-true b 129 (and_parts (a == 226) (b == 129) inner.0).1 in
    let low = leb-true 166 c inner.1 in
    both_ways _ e (ap (λ n. is_isolate a n (get_or rest 1 0)) (first_back marks rest (omega arith))
    ∙ ap (λ n. is_isolate a b n) (second_back marks rest (omega arith) (omega arith)) ∙ f))

-- ---- a text

pub written_free : (marks : Bool) (n : ℕ) (text : List ℕ) → has_control (escaped_after marks n text) ≡ false
unfolding escaped_after
written_free marks zero [] = refl
written_free marks (suc n) [] = refl
written_free marks (suc n) (a ∷ rest) = written_free marks n rest
written_free marks zero (a ∷ rest) =
    let later : (k : ℕ) → has_control (escaped_after marks k rest) ≡ false = λ k. written_free marks k rest in
    first_cases marks a rest (λ l k. has_control (l ++ escaped_after marks k rest) ≡ false)
    (λ first n k digits low text. escape_free first (escaped_after marks k rest) n low digits (later k))
    (λ c1 embedding isolate plain begun mark.
    or_from _ _ (control_from a _ _ plain (c1_free marks a rest c1) (embedding_free marks a rest embedding) (isolate_free marks a rest isolate)) (later 0))
