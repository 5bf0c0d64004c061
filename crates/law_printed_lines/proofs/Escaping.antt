-- A text as it is written on a line can be read back.
use Rattle.std.proofs.Common.{◌≡◌, ◌∙◌, ℕ, zero, suc, ◌+◌, ◌*◌, ◌-◌, ◌<◌, ◌≤◌, Bool, true, false, ◌&&◌, if◌then◌else◌, List, [], ◌∷◌, ◌++◌, All, Option, Some, None, get_or, drop, fold, ap, append_assoc, append-nil, arith, refl, sym}
use Rattle.std.specs.List.{list_all}
use Rattle.std.specs.Prelude.{◌==◌, codes, nat_le, nat_lt, ⊤}
use Rattle.std.proofs.lemmas.Bool.{and_from, and_parts, both_ways, cond-false, cond-true, cond_both, eq-eqb, eqb-false, eqb-true, false_from_ne_true, le-ltb, leb-true, lt-ltb, ltb-true, ltb-false, ne_eqb}
use Rattle.std.proofs.lemmas.List.{get_or-drop}
use Rattle.std.proofs.lemmas.List.Elements.{All-append, All-cons, All-head, All-nil, All-tail, All-weaker}
use Rattle.check_print.specs.source_file.Escaped.{escaped_after, escaped_byte, first_escaped, is_escape, is_mark, mark_escaped}
use Rattle.check_print.specs.source_file.Shown.{c1_escape, escape, hex_digit, is_c1, is_embedding, is_isolate, more_len}

-- ---- reading

-- the value of a digit of base 16
abbrev pub digit_of : ℕ → ℕ
digit_of d = if nat_lt d 58 then d - 48 else d - 87

-- the number that digits give
abbrev pub number_of : ℕ → List ℕ → ℕ
number_of n digits = fold (λ m d. m * 16 + digit_of d) n digits

-- the bytes of a character that is written as an escape, by its number
abbrev pub bytes_of : ℕ → List ℕ
bytes_of n =
    if nat_lt n 128 then n ∷ []
    else if nat_lt n 160 then 194 ∷ n ∷ []
    else if nat_lt n 8256 then 226 ∷ 128 ∷ (n - 8064) ∷ []
    else 226 ∷ 129 ∷ (n - 8128) ∷ []

-- what a text on a line was written from: with so many bytes to pass over, and the number that the digits of an escape have given so far
unfoldable pub read_on : ℕ → Option ℕ → List ℕ → List ℕ
read_on n code [] = []
read_on (suc n) code (a ∷ rest) = read_on n code rest
read_on zero None (a ∷ rest) =
    if is_escape a (get_or rest 0 0) (get_or rest 1 0) then read_on 2 (Some 0) rest else a ∷ read_on 0 None rest
read_on zero (Some code) (a ∷ rest) =
    if a == 125 then bytes_of code ++ read_on 0 None rest else read_on 0 (Some (code * 16 + digit_of a)) rest

abbrev pub read : List ℕ → List ℕ
read line = read_on 0 None line

-- ---- an escape

last_low : (n : ℕ) → n < 16 → (hex_digit n == 125) ≡ false
last_low n h = cond_both (nat_lt n 10) _ _ (λ d. (d == 125) ≡ false) (λ e. ne_eqb _ _ (λ f. omega arith)) (λ e. ne_eqb _ _ (λ f. omega arith))

last_value : (n : ℕ) → n < 16 → digit_of (hex_digit n) ≡ n
last_value n h =
    cond_both (nat_lt n 10) _ _ (λ d. digit_of d ≡ n)
    (λ e. cond-true (nat_lt (48 + n) 58) _ _ (lt-ltb _ _ (omega (arith, ltb-true n 10 e))) ∙ omega arith)
    (λ e. cond-false (nat_lt (87 + n) 58) _ _ (le-ltb _ _ (omega (arith, ltb-false n 10 e))) ∙ omega arith)

-- the last digit of an escape
last_read : (code n : ℕ) (rest : List ℕ) → n < 16 → read_on 0 (Some code) (hex_digit n ∷ 125 ∷ rest) ≡ bytes_of (code * 16 + n) ++ read rest
unfolding read_on
last_read code n rest h =
    cond-false (hex_digit n == 125) _ _ (last_low n h) ∙ ap (λ d. bytes_of (code * 16 + d) ++ read rest) (last_value n h)

-- a digit of base 10, as all but the last of an escape are
abbrev pub is_digit : ℕ → Bool
is_digit d = nat_le 48 d && nat_le d 57

-- those before it
digits_read : (code n : ℕ) (first rest : List ℕ) → n < 16 → list_all is_digit first ≡ true
    → read_on 0 (Some code) (first ++ hex_digit n ∷ 125 ∷ rest) ≡ bytes_of (number_of code first * 16 + n) ++ read rest
unfolding read_on
digits_read code n [] rest h e = last_read code n rest h
digits_read code n (d ∷ first) rest h e =
    let parts = and_parts (is_digit d) (list_all is_digit first) e in
    let high = leb-true d 57 (and_parts (nat_le 48 d) (nat_le d 57) parts.0).1 in
    cond-false (d == 125) _ _ (ne_eqb _ _ (λ f. omega arith)) ∙ digits_read (code * 16 + digit_of d) n first rest h parts.1

escape_read : (first rest : List ℕ) (n : ℕ) → n < 16 → list_all is_digit first ≡ true → read (escape first n ++ rest) ≡ bytes_of (number_of 0 first * 16 + n) ++ read rest
unfolding read_on
escape_read first rest n h e = ap (λ l. read_on 0 (Some 0) l) (append_assoc first (hex_digit n ∷ 125 ∷ []) rest) ∙ digits_read 0 n first rest h e

-- ---- the bytes of each escape

ascii_bytes : (n a : ℕ) (rest : List ℕ) → n ≡ a → a < 128 → a ∷ rest ≡ bytes_of n ++ rest
ascii_bytes n a rest e h = sym (ap (λ m. m ∷ rest) e) ∙ sym (ap (λ l. l ++ rest) (cond-true (nat_lt n 128) _ _ (lt-ltb _ _ (omega arith))))

first_is : (rest : List ℕ) (b : ℕ) → get_or rest 0 0 ≡ b → 0 < b → rest ≡ b ∷ drop 1 rest
first_is [] b e h = absurd (omega arith)
first_is (x ∷ rest) b e h = ap (λ m. m ∷ rest) e

two_are : (rest : List ℕ) (b c : ℕ) → get_or rest 0 0 ≡ b → get_or rest 1 0 ≡ c → 0 < b → 0 < c → rest ≡ b ∷ c ∷ drop 2 rest
two_are [] b c e f h k = absurd (omega arith)
two_are (x ∷ []) b c e f h k = absurd (omega arith)
two_are (x ∷ y ∷ rest) b c e f h k = ap (λ m. m ∷ y ∷ rest) e ∙ ap (λ m. b ∷ m ∷ rest) f

c1_bytes : (n b : ℕ) → n ≡ b → 128 ≤ b → b ≤ 159 → bytes_of n ≡ 194 ∷ b ∷ []
c1_bytes n b e low high =
    cond-false (nat_lt n 128) _ _ (le-ltb _ _ (omega arith)) ∙ cond-true (nat_lt n 160) _ _ (lt-ltb _ _ (omega arith)) ∙ ap (λ m. 194 ∷ m ∷ []) e

c1_text : (n a b : ℕ) (rest : List ℕ) → a ≡ 194 → get_or rest 0 0 ≡ b → n ≡ b → 128 ≤ b → b ≤ 159 → a ∷ rest ≡ bytes_of n ++ drop 1 rest
c1_text n a b rest p q e low high =
    ap (λ m. m ∷ rest) p ∙ ap (λ l. 194 ∷ l) (first_is rest b q (omega arith)) ∙ ap (λ l. l ++ drop 1 rest) (sym (c1_bytes n b e low high))

embedding_bytes : (n c : ℕ) → n ≡ 8064 + c → 170 ≤ c → c ≤ 174 → bytes_of n ≡ 226 ∷ 128 ∷ c ∷ []
embedding_bytes n c e low high =
    cond-false (nat_lt n 128) _ _ (le-ltb _ _ (omega arith)) ∙ cond-false (nat_lt n 160) _ _ (le-ltb _ _ (omega arith))
    ∙ cond-true (nat_lt n 8256) _ _ (lt-ltb _ _ (omega arith)) ∙ ap (λ m. 226 ∷ 128 ∷ m ∷ []) (omega arith)

isolate_bytes : (n c : ℕ) → n ≡ 8128 + c → 166 ≤ c → c ≤ 169 → bytes_of n ≡ 226 ∷ 129 ∷ c ∷ []
isolate_bytes n c e low high =
    cond-false (nat_lt n 128) _ _ (le-ltb _ _ (omega arith)) ∙ cond-false (nat_lt n 160) _ _ (le-ltb _ _ (omega arith))
    ∙ cond-false (nat_lt n 8256) _ _ (le-ltb _ _ (omega arith)) ∙ ap (λ m. 226 ∷ 129 ∷ m ∷ []) (omega arith)

turning_text : (n m a b c : ℕ) (rest : List ℕ) → a ≡ 226 → b ≡ m → 0 < m → 0 < c → get_or rest 0 0 ≡ b → get_or rest 1 0 ≡ c → bytes_of n ≡ 226 ∷ m ∷ c ∷ []
    → a ∷ rest ≡ bytes_of n ++ drop 2 rest
turning_text n m a b c rest p q low high r s e =
    ap (λ m. m ∷ rest) p ∙ ap (λ l. 226 ∷ l) (two_are rest m c (r ∙ q) s low high) ∙ ap (λ l. l ++ drop 2 rest) (sym e)

-- ---- how a text begins

-- no control character of ASCII
abbrev pub IsPlain : ℕ → Type 0
IsPlain b = (32 ≤ b) × (b ≡ 127 → ⊥)

-- what holds of an escape of the first character, and of its first byte as it is, holds of how it is written
abbrev pub Coded : ℕ → List ℕ → (List ℕ → ℕ → Type 0) → Type 0
Coded a rest P = (first : List ℕ) (n k : ℕ) → list_all is_digit first ≡ true → n < 16 → a ∷ rest ≡ bytes_of (number_of 0 first * 16 + n) ++ drop k rest → P (escape first n) k

abbrev pub Raw : Bool → ℕ → List ℕ → (List ℕ → ℕ → Type 0) → Type 0
Raw marks a rest P = IsPlain a → is_escape a (get_or rest 0 0) (get_or rest 1 0) ≡ false → is_mark marks a (get_or rest 0 0) ≡ false → P (a ∷ []) 0

-- the same where no character begins that is written as an escape
abbrev pub RawFirst : Bool → ℕ → List ℕ → (List ℕ → ℕ → Type 0) → Type 0
RawFirst marks a rest P = is_c1 a (get_or rest 0 0) ≡ false → is_embedding a (get_or rest 0 0) (get_or rest 1 0) ≡ false
    → is_isolate a (get_or rest 0 0) (get_or rest 1 0) ≡ false → Raw marks a rest P

byte_cases : (marks : Bool) (a : ℕ) (rest : List ℕ) (P : List ℕ → ℕ → Type 0) → Coded a rest P → Raw marks a rest P
    → is_escape a (get_or rest 0 0) (get_or rest 1 0) ≡ false → is_mark marks a (get_or rest 0 0) ≡ false → P (escaped_byte a) 0
byte_cases marks a rest P coded raw e f =
    cond_both (nat_lt a 16) _ _ (λ l. P l 0) (λ g. coded [] a 0 refl (ltb-true a 16 g) (ascii_bytes (0 * 16 + a) a rest (omega arith) (omega (arith, ltb-true a 16 g))))
    (λ g. cond_both (nat_lt a 32) _ _ (λ l. P l 0)
    (λ h. coded (codes "1") (a - 16) 0 refl (omega (arith, ltb-true a 32 h)) (ascii_bytes (1 * 16 + (a - 16)) a rest (omega (arith, ltb-false a 16 g)) (omega (arith, ltb-true a 32 h))))
    (λ h. cond_both (a == 127) _ _ (λ l. P l 0) (λ k. coded (codes "7") 15 0 refl (omega arith) (ascii_bytes 127 a rest (sym (eqb-true a 127 k)) (omega (arith, eqb-true a 127 k))))
    (λ k. raw (ltb-false a 32 h, eqb-false a 127 k) e f)))

mark_cases : (marks : Bool) (a : ℕ) (rest : List ℕ) (P : List ℕ → ℕ → Type 0) → Coded a rest P → Raw marks a rest P
    → P (mark_escaped marks a (get_or rest 0 0) (get_or rest 1 0)) 0
mark_cases marks a rest P coded raw =
    let b = get_or rest 0 0 in
    let c = get_or rest 1 0 in
    cond_both (is_escape a b c) _ _ (λ l. P l 0)
    (λ e.
    let is : a ≡ 92 = eqb-true a 92 (and_parts (a == 92) (b == 117) (and_parts (a == 92 && b == 117) (c == 123) e).0).0 in
    coded (codes "5") 12 0 refl (omega arith) (ascii_bytes 92 a rest (sym is) (omega arith)))
    (λ e. cond_both (is_mark marks a b) _ _ (λ l. P l 0)
    (λ f.
    let is : a ≡ 58 = eqb-true a 58 (and_parts (a == 58) (nat_le 48 b) (and_parts (a == 58 && nat_le 48 b) (nat_le b 57) (and_parts marks _ f).1).0).0 in
    coded (codes "3") 10 0 refl (omega arith) (ascii_bytes 58 a rest (sym is) (omega arith)))
    (λ f. byte_cases marks a rest P coded raw e f))

-- both by one test
both : {A B : Type 0} (t : Bool) (x y : A) (u v : B) (P : A → B → Type 0) → (t ≡ true → P x u) → (t ≡ false → P y v) → P (if t then x else y) (if t then u else v)
both true x y u v P f g = f refl
both false x y u v P f g = g refl

-- parts of a test
test_parts : (x y z : Bool) → (x && y && z) ≡ true → (x ≡ true) × (y ≡ true) × (z ≡ true)
test_parts x y z e =
    let outer = and_parts (x && y) z e in
    let inner = and_parts x y outer.0 in
    (inner.0, inner.1, outer.1)

c1_case : (a : ℕ) (rest : List ℕ) (P : List ℕ → ℕ → Type 0) → Coded a rest P → is_c1 a (get_or rest 0 0) ≡ true → P (c1_escape (get_or rest 0 0)) 1
c1_case a rest P coded e =
    let b = get_or rest 0 0 in
    let parts = test_parts (a == 194) (nat_le 128 b) (nat_le b 159) e in
    let is = eqb-true a 194 parts.0 in
    let low = leb-true 128 b parts.1 in
    let high = leb-true b 159 parts.2 in
    cond_both (nat_lt b 144) _ _ (λ l. P l 1)
    (λ f. coded (codes "8") (b - 128) 1 refl (omega (arith, ltb-true b 144 f)) (c1_text (8 * 16 + (b - 128)) a b rest is refl (omega arith) low high))
    (λ f. coded (codes "9") (b - 144) 1 refl (omega arith) (c1_text (9 * 16 + (b - 144)) a b rest is refl (omega (arith, ltb-false b 144 f)) low high))

embedding_case : (a : ℕ) (rest : List ℕ) (P : List ℕ → ℕ → Type 0) → Coded a rest P → is_embedding a (get_or rest 0 0) (get_or rest 1 0) ≡ true
    → P (escape (codes "202") (get_or rest 1 0 - 160)) 2
embedding_case a rest P coded e =
    let b = get_or rest 0 0 in
    let c = get_or rest 1 0 in
    let outer = and_parts (a == 226 && b == 128 && nat_le 170 c) (nat_le c 174) e in
    let parts = test_parts (a == 226) (b == 128) (nat_le 170 c) outer.0 in
    let low = leb-true 170 c parts.2 in
    let high = leb-true c 174 outer.1 in
    coded (codes "202") (c - 160) 2 refl (omega arith)
    (turning_text (514 * 16 + (c - 160)) 128 a b c rest (eqb-true a 226 parts.0) (eqb-true b 128 parts.1) (omega arith) (omega arith) refl refl (embedding_bytes (514 * 16 + (c - 160)) c (omega arith) low high))

isolate_case : (a : ℕ) (rest : List ℕ) (P : List ℕ → ℕ → Type 0) → Coded a rest P → is_isolate a (get_or rest 0 0) (get_or rest 1 0) ≡ true
    → P (escape (codes "206") (get_or rest 1 0 - 160)) 2
isolate_case a rest P coded e =
    let b = get_or rest 0 0 in
    let c = get_or rest 1 0 in
    let outer = and_parts (a == 226 && b == 129 && nat_le 166 c) (nat_le c 169) e in
    let parts = test_parts (a == 226) (b == 129) (nat_le 166 c) outer.0 in
    let low = leb-true 166 c parts.2 in
    let high = leb-true c 169 outer.1 in
    coded (codes "206") (c - 160) 2 refl (omega arith)
    (turning_text (518 * 16 + (c - 160)) 129 a b c rest (eqb-true a 226 parts.0) (eqb-true b 129 parts.1) (omega arith) (omega arith) refl refl (isolate_bytes (518 * 16 + (c - 160)) c (omega arith) low high))

pub first_cases : (marks : Bool) (a : ℕ) (rest : List ℕ) (P : List ℕ → ℕ → Type 0) → Coded a rest P → RawFirst marks a rest P
    → P (first_escaped marks a (get_or rest 0 0) (get_or rest 1 0)) (more_len a (get_or rest 0 0) (get_or rest 1 0))
first_cases marks a rest P coded raw =
    let b = get_or rest 0 0 in
    let c = get_or rest 1 0 in
    both (is_c1 a b) _ _ _ _ P (λ e. c1_case a rest P coded e)
    (λ e. both (is_embedding a b c) _ _ _ _ P (λ f. embedding_case a rest P coded f)
    (λ f. both (is_isolate a b c) _ _ _ _ P (λ g. isolate_case a rest P coded g) (λ g. mark_cases marks a rest P coded (raw e f g))))

-- ---- a text

abbrev pub written : Bool → List ℕ → List ℕ
written marks text = escaped_after marks 0 text

after_drop : (marks : Bool) (n : ℕ) (text : List ℕ) → escaped_after marks n text ≡ written marks (drop n text)
unfolding escaped_after
after_drop marks zero [] = refl
after_drop marks (suc n) [] = refl
after_drop marks zero (byte ∷ rest) = refl
after_drop marks (suc n) (byte ∷ rest) = after_drop marks n rest

-- the first byte of what is written is that of the text, unless it is a backslash or what comes after the text begins with it
abbrev pub Begins : Bool → List ℕ → List ℕ → List ℕ → Type 0
Begins marks text tail line = (k : ℕ) → (k ≡ 92 → ⊥) → (get_or tail 0 0 ≡ k → ⊥) → get_or line 0 0 ≡ k
    → (get_or text 0 0 ≡ k) × (get_or line 1 0 ≡ get_or (written marks (drop 1 text) ++ tail) 0 0)

pub begins : (marks : Bool) (text tail : List ℕ) → Begins marks text tail (written marks text ++ tail)
unfolding escaped_after
begins marks [] tail = λ k h t e. absurd (t e)
begins marks (a ∷ rest) tail =
    first_cases marks a rest (λ l n. Begins marks (a ∷ rest) tail ((l ++ escaped_after marks n rest) ++ tail))
    (λ first n k digits low text j h t e. absurd (h (sym e)))
    (λ _ _ _ plain begun mark j h t e. (e, refl))

-- what comes after a text does not go on with what begins an escape
abbrev pub IsApart : List ℕ → Type 0
IsApart tail = (get_or tail 0 0 ≡ 117 → ⊥) × (get_or tail 0 0 ≡ 123 → ⊥)

raw_read : (marks : Bool) (a : ℕ) (rest tail : List ℕ) → IsApart tail → is_escape a (get_or rest 0 0) (get_or rest 1 0) ≡ false
    → read (a ∷ (written marks rest ++ tail)) ≡ a ∷ read (written marks rest ++ tail)
unfolding read_on
raw_read marks a rest tail apart e =
    let line = written marks rest ++ tail in
    let b = get_or line 0 0 in
    let c = get_or line 1 0 in
    cond-false (is_escape a b c) _ _ (false_from_ne_true _ (λ f.
    let parts = test_parts (a == 92) (b == 117) (c == 123) f in
    let second = begins marks rest tail 117 (λ g. omega arith) apart.0 (eqb-true b 117 parts.1) in
    let third = begins marks (drop 1 rest) tail 123 (λ g. omega arith) apart.1 (sym second.1 ∙ eqb-true c 123 parts.2) in
    both_ways _ e (and_from _ _ (and_from _ _ parts.0 (eq-eqb _ _ second.0)) (eq-eqb _ _ (sym (get_or-drop 1 rest 0 0) ∙ third.0)))))

-- what is written can be read, and what comes after it
pub read_written : (marks : Bool) (n : ℕ) (text tail : List ℕ) → IsApart tail → read (escaped_after marks n text ++ tail) ≡ drop n text ++ read tail
unfolding read_on escaped_after
read_written marks zero [] tail apart = refl
read_written marks (suc n) [] tail apart = refl
read_written marks (suc n) (a ∷ rest) tail apart = read_written marks n rest tail apart
read_written marks zero (a ∷ rest) tail apart =
    let later : (k : ℕ) → read (escaped_after marks k rest ++ tail) ≡ drop k rest ++ read tail = λ k. read_written marks k rest tail apart in
    first_cases marks a rest (λ l k. read ((l ++ escaped_after marks k rest) ++ tail) ≡ (a ∷ rest) ++ read tail)
    (λ first n k digits low text.
    let bytes = bytes_of (number_of 0 first * 16 + n) in
    ap read (append_assoc (escape first n) (escaped_after marks k rest) tail)
    ∙ escape_read first (escaped_after marks k rest ++ tail) n low digits
    ∙ ap (λ l. bytes ++ l) (later k)
    ∙ sym (append_assoc bytes (drop k rest) (read tail))
    ∙ ap (λ l. l ++ read tail) (sym text))
    (λ _ _ _ plain begun mark. raw_read marks a rest tail apart begun ∙ ap (λ l. a ∷ l) (later 0))

read_all : (marks : Bool) (text : List ℕ) → read (escaped_after marks 0 text) ≡ text
unfolding read_on
read_all marks text =
    ap read (sym (append-nil (escaped_after marks 0 text))) ∙ read_written marks 0 text [] ((λ e. omega arith), (λ e. omega arith)) ∙ append-nil text

-- two texts that are written alike are the same
pub written_same : (marks : Bool) (x y : List ℕ) → escaped_after marks 0 x ≡ escaped_after marks 0 y → x ≡ y
written_same marks x y e = sym (read_all marks x) ∙ ap read e ∙ read_all marks y

-- ---- its bytes

-- this holds of each byte of an escape
pub record HoldsOfEscapes (P : ℕ → Type 0) : Type 0 where
  pub backslash : P 92
  pub letter : P 117
  pub opening : P 123
  pub closing : P 125
  pub digit : (d : ℕ) → 48 ≤ d → d ≤ 57 → P d
  pub late_digit : (d : ℕ) → 97 ≤ d → d ≤ 102 → P d

digits_hold : (P : ℕ → Type 0) → HoldsOfEscapes P → (first : List ℕ) → list_all is_digit first ≡ true → All P first
digits_hold P h [] e = All-nil P
digits_hold P h (d ∷ first) e =
    let parts = and_parts (is_digit d) (list_all is_digit first) e in
    let sides = and_parts (nat_le 48 d) (nat_le d 57) parts.0 in
    All-cons P d first (h.digit d (leb-true 48 d sides.0) (leb-true d 57 sides.1)) (digits_hold P h first parts.1)

last_holds : (P : ℕ → Type 0) → HoldsOfEscapes P → (n : ℕ) → n < 16 → P (hex_digit n)
last_holds P h n low =
    cond_both (nat_lt n 10) _ _ P (λ e. h.digit (48 + n) (omega arith) (omega (arith, ltb-true n 10 e)))
    (λ e. h.late_digit (87 + n) (omega (arith, ltb-false n 10 e)) (omega arith))

escape_holds : (P : ℕ → Type 0) → HoldsOfEscapes P → (first : List ℕ) (n : ℕ) → list_all is_digit first ≡ true → n < 16 → All P (escape first n)
escape_holds P h first n e low =
    let end = All-cons P (hex_digit n) (125 ∷ []) (last_holds P h n low) (All-cons P 125 [] h.closing (All-nil P)) in
    let digits = first ++ hex_digit n ∷ 125 ∷ [] in
    All-cons P 92 (117 ∷ 123 ∷ digits) h.backslash
    (All-cons P 117 (123 ∷ digits) h.letter (All-cons P 123 digits h.opening (All-append P first (hex_digit n ∷ 125 ∷ []) (digits_hold P h first e) end)))

-- what holds of each byte of an escape, and of each byte of a text that is no control character of ASCII, holds of each byte that is written
pub written_each : (P Q : ℕ → Type 0) → HoldsOfEscapes P → ((b : ℕ) → IsPlain b → Q b → P b) → (marks : Bool) (n : ℕ) (text : List ℕ) → All Q text
    → All P (escaped_after marks n text)
unfolding escaped_after
written_each P Q h raw marks zero [] all = All-nil P
written_each P Q h raw marks (suc n) [] all = All-nil P
written_each P Q h raw marks (suc n) (a ∷ rest) all = written_each P Q h raw marks n rest (All-tail Q a rest all)
written_each P Q h raw marks zero (a ∷ rest) all =
    let later : (k : ℕ) → All P (escaped_after marks k rest) = λ k. written_each P Q h raw marks k rest (All-tail Q a rest all) in
    first_cases marks a rest (λ l k. All P (l ++ escaped_after marks k rest))
    (λ first n k digits low text. All-append P (escape first n) (escaped_after marks k rest) (escape_holds P h first n digits low) (later k))
    (λ _ _ _ plain begun mark. All-cons P a (escaped_after marks 0 rest) (raw a plain (All-head Q a rest all)) (later 0))

plain_escapes : HoldsOfEscapes IsPlain
plain_escapes = record {
  backslash = (omega arith, λ e. omega arith);
  letter = (omega arith, λ e. omega arith);
  opening = (omega arith, λ e. omega arith);
  closing = (omega arith, λ e. omega arith);
  digit = λ d low high. (omega arith, λ e. omega arith);
  late_digit = λ d low high. (omega arith, λ e. omega arith);
}

-- no control character of ASCII is written, and so no line feed
pub written_plain : (marks : Bool) (text : List ℕ) → All IsPlain (escaped_after marks 0 text)
written_plain marks text = written_each IsPlain (λ b. ⊤) plain_escapes (λ b plain _. plain) marks 0 text (λ k d w. tt)

pub written_shown : (marks : Bool) (text : List ℕ) → All (λ b. 32 ≤ b) (escaped_after marks 0 text)
written_shown marks text = All-weaker IsPlain (λ b. 32 ≤ b) (λ b plain. plain.0) (escaped_after marks 0 text) (written_plain marks text)
