-- Nothing that is written of a name, a text or a number has a line feed.
use Rattle.std.proofs.Common.{◌≡◌, ℕ, zero, suc, ◌+◌, ◌-◌, ◌/◌, ◌%◌, ◌<◌, ◌≤◌, ◌==◌, Bool, true, false, not, ◌&&◌, List, [], ◌∷◌, ◌++◌, ap, arith, codes, cond, decimal, if◌then◌else◌, get_or, le-leb, length, lt-ltb, nat_le, nat_lt, refl, replicate}
use Rattle.std.proofs.lemmas.Bool.{and_from, and_parts, cond_both}
use Rattle.std.proofs.lemmas.Bool.Decides.{nat_tests}
use Rattle.std.proofs.lemmas.List.Elements.{All-replicate, All-weaker}
use Rattle.std.proofs.lemmas.List.Sums.{list_all-from_AllPass}
use Rattle.std.specs.Fmt.{digit_glyph, digits, digits_onto}
use Rattle.std.specs.List.{list_all}
use Rattle.law_printed_lines.specs.report_text.Layouts.{blanks}
use Rattle.law_printed_lines.specs.report_text.Paint.{closed, code_of, style_of}
use Rattle.law_printed_lines.specs.source_file.declared.level.Level.{Level}
use Rattle.law_printed_lines.specs.source_file.declared.level.Level.TheVariants.{Warning, Error}
use Rattle.law_printed_lines.specs.source_file.Escaped.{escaped_after}
use Rattle.law_printed_lines.specs.source_file.Shown.{c1_escape, escape, hex_digit, is_c1, is_embedding, is_isolate, more_len, shown, shown_after, shown_byte}
use Rattle.law_printed_lines.proofs.Escaping.{written_shown}
use Rattle.law_printed_text.proofs.Rows.{IsClean, IsPiece, back, both, front, is_plain, piece, word}

-- ---- numbers

abbrev pub is_digit : ℕ → Bool
is_digit b = nat_le 48 b && nat_le b 57

glyph_digit : (d : ℕ) → d < 10 → is_digit (digit_glyph false d) ≡ true
glyph_digit d h =
    let low : nat_lt d 10 ≡ true = lt-ltb d 10 h in
    rw low (and_from (nat_le 48 (48 + d)) (nat_le (48 + d) 57) (le-leb 48 (48 + d) (omega arith)) (le-leb (48 + d) 57 (omega (arith, h))))

onto_digits : (k n : ℕ) (bs : List ℕ) → list_all is_digit bs ≡ true → list_all is_digit (digits_onto k 10 false n bs) ≡ true
onto_digits zero n bs h = h
onto_digits (suc k) n bs h =
    let b = digit_glyph false (n % 10) in
    let more = and_from (is_digit b) (list_all is_digit bs) (glyph_digit (n % 10) (omega arith)) h in
    cond_both (n / 10 == 0) (b ∷ bs) (digits_onto k 10 false (n / 10) (b ∷ bs)) (λ l. list_all is_digit l ≡ true) (λ _. more)
    (λ _. onto_digits k (n / 10) (b ∷ bs) more)

pub decimal_digits : (n : ℕ) → list_all is_digit (decimal n) ≡ true
unfolding digits
decimal_digits n = onto_digits 64 n [] refl

-- what passes one test passes another
pub passes : (p q : ℕ → Bool) → ((b : ℕ) → p b ≡ true → q b ≡ true) → (t : List ℕ) → list_all p t ≡ true → list_all q t ≡ true
passes p q f [] e = refl
passes p q f (b ∷ t) e =
    let are = and_parts (p b) (list_all p t) e in
    and_from (q b) (list_all q t) (f b are.0) (passes p q f t are.1)

other_byte : (b n : ℕ) → n < b → (b == n) ≡ false
other_byte b n h = grind (arith, nat_tests)

digit_high : (b : ℕ) → is_digit b ≡ true → 48 ≤ b
digit_high b e =
    let are = and_parts (nat_le 48 b) (nat_le b 57) e in
    let h : nat_le 48 b ≡ true = are.0 in
    grind (arith, nat_tests)

high_plain : (b : ℕ) → 10 < b → is_plain b ≡ true
high_plain b h = ap not (other_byte b 10 h)

pub decimal_clean : (n : ℕ) → IsClean (decimal n)
decimal_clean n = word (decimal n) (passes is_digit is_plain (λ b e. high_plain b (omega (arith, digit_high b e))) (decimal n) (decimal_digits n))

pub repeated : (p : ℕ → Bool) (n b : ℕ) → p b ≡ true → list_all p (replicate n b) ≡ true
repeated p n b e = list_all-from_AllPass p (replicate n b) (All-replicate (λ x. p x ≡ true) n b e)

pub blanks_clean : (n : ℕ) → IsClean (blanks n)
blanks_clean n = word (blanks n) (repeated is_plain n 32 refl)

-- ---- escapes

hex_plain : (n : ℕ) → is_plain (hex_digit n) ≡ true
hex_plain n =
    cond_both (nat_lt n 10) (48 + n) (87 + n) (λ b. is_plain b ≡ true) (λ _. high_plain (48 + n) (omega arith)) (λ _. high_plain (87 + n) (omega arith))

escape_clean : (first : List ℕ) (last : ℕ) → IsClean first → IsClean (escape first last)
escape_clean first last c =
    both (both (word (92 ∷ codes "u{") refl) c) (word (hex_digit last ∷ codes "}") (and_from (is_plain (hex_digit last)) true (hex_plain last) refl))

c1_clean : (b : ℕ) → IsClean (c1_escape b)
c1_clean b =
    cond_both (nat_lt b 144) (escape (codes "8") (b - 128)) (escape (codes "9") (b - 144)) IsClean (λ _. escape_clean (codes "8") (b - 128) (word (codes "8") refl))
    (λ _. escape_clean (codes "9") (b - 144) (word (codes "9") refl))

one_clean : (b : ℕ) → is_plain b ≡ true → IsClean (b ∷ [])
one_clean b e = word (b ∷ []) (and_from (is_plain b) true e refl)

-- a byte that is no control character
high_clean : (b : ℕ) → nat_lt b 32 ≡ false → IsClean (b ∷ [])
high_clean b e =
    let h : (b == 10) ≡ false = grind (arith, nat_tests) in
    one_clean b (ap not h)

turned : (a b c : ℕ) (other : List ℕ) → IsClean other
    → IsClean (if is_c1 a b then c1_escape b else if is_embedding a b c then escape (codes "202") (c - 160) else if is_isolate a b c then escape (codes "206") (c - 160) else other)
turned a b c other h =
    let last = cond (is_isolate a b c) (escape (codes "206") (c - 160)) other in
    let inner = cond (is_embedding a b c) (escape (codes "202") (c - 160)) last in
    cond_both (is_c1 a b) (c1_escape b) inner IsClean (λ _. c1_clean b)
    (λ _. cond_both (is_embedding a b c) (escape (codes "202") (c - 160)) last IsClean (λ _. escape_clean (codes "202") (c - 160) (word (codes "202") refl))
    (λ _. cond_both (is_isolate a b c) (escape (codes "206") (c - 160)) other IsClean (λ _. escape_clean (codes "206") (c - 160) (word (codes "206") refl)) (λ _. h)))

-- ---- a text as it is shown

picture : (b : ℕ) → IsClean (226 ∷ 144 ∷ (128 + b) ∷ [])
picture b = word (226 ∷ 144 ∷ (128 + b) ∷ []) (and_from (is_plain (128 + b)) true (high_plain (128 + b) (omega arith)) refl)

shown_byte_clean : (b : ℕ) → IsClean (shown_byte b)
shown_byte_clean b =
    cond_both (b == 9) (codes "    ") _ IsClean (λ _. word (codes "    ") refl) (λ _. cond_both (b == 13) [] _ IsClean (λ _. word [] refl)
    (λ _. cond_both (nat_lt b 32) (226 ∷ 144 ∷ (128 + b) ∷ []) _ IsClean (λ _. picture b)
    (λ high. cond_both (b == 127) (226 ∷ 144 ∷ 161 ∷ []) (b ∷ []) IsClean (λ _. word (226 ∷ 144 ∷ 161 ∷ []) refl) (λ _. high_clean b high))))

shown_from : (n : ℕ) (t : List ℕ) → IsClean (shown_after n t)
unfolding shown_after
shown_from zero [] = word [] refl
shown_from (suc n) [] = word [] refl
shown_from zero (a ∷ rest) =
    let b = get_or rest 0 0 in
    let c = get_or rest 1 0 in
    both (turned a b c (shown_byte a) (shown_byte_clean a)) (shown_from (more_len a b c) rest)
shown_from (suc n) (a ∷ rest) = shown_from n rest

pub shown_clean : (t : List ℕ) → IsClean (shown t)
shown_clean t = shown_from 0 t

-- ---- a name or a message as it is written

pub escaped_clean : (marks : Bool) (t : List ℕ) → IsClean (escaped_after marks 0 t)
escaped_clean marks t =
    word (escaped_after marks 0 t)
    (list_all-from_AllPass is_plain (escaped_after marks 0 t)
    (All-weaker (λ b. 32 ≤ b) (λ b. is_plain b ≡ true) (λ b h. high_plain b (omega (arith, h))) (escaped_after marks 0 t) (written_shown marks t)))

-- ---- painted pieces

-- a piece in the colour of a code
abbrev pub shell : Bool → List ℕ → List ℕ → List ℕ
shell color code t = (if color then 27 ∷ code else []) ++ t ++ closed color

abbrev pub bold : List ℕ
bold = codes "[1m"

abbrev pub frame : List ℕ
frame = codes "[1;34m"

abbrev pub removed : List ℕ
removed = codes "[31m"

abbrev pub added : List ℕ
added = codes "[32m"

abbrev pub of_level : Level → List ℕ
of_level level = codes "[" ++ code_of (style_of level) ++ codes "m"

pub level_plain : (level : Level) → list_all is_plain (of_level level) ≡ true
level_plain Warning = refl
level_plain Error = refl

opened_clean : (color : Bool) (code : List ℕ) → list_all is_plain code ≡ true → IsClean (if color then 27 ∷ code else [])
opened_clean true code e = word (27 ∷ code) e
opened_clean false code e = word [] refl

pub closed_clean : (color : Bool) → IsClean (closed color)
closed_clean true = word (closed true) refl
closed_clean false = word [] refl

pub shell_clean : (color : Bool) (code : List ℕ) → list_all is_plain code ≡ true → {t : List ℕ} → IsClean t → IsClean (shell color code t)
shell_clean color code e p = both (both (opened_clean color code e) p) (closed_clean color)

pub shell_piece : (color : Bool) (code : List ℕ) → list_all is_plain code ≡ true → {t : List ℕ} → IsPiece t → IsPiece (shell color code t)
shell_piece color code e p = front (back (opened_clean color code e) p) (closed_clean color)

pub solid : (t : List ℕ) → list_all is_plain t ≡ true → (length t == 0) ≡ false → IsPiece t
solid [] e h = cc
solid (b ∷ t) e h = piece (word (b ∷ t) e) (omega arith)
