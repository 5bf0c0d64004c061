-- Nothing that is printed on lines steers a terminal.
use Rattle.std.proofs.Common.{◌≡◌, ◌∙◌, ◌⊎◌, ℕ, ◌<◌, ◌≤◌, ◌^◌, Bool, true, false, ◌&&◌, ◌||◌, List, [], ◌∷◌, ◌++◌, All, Option, Some, None, ap, append_assoc, arith, get_or, inl, inr, refl, subst, sym}
use Rattle.std.specs.Fmt.{decimal}
use Rattle.std.specs.List.{flat_map, list_all}
use Rattle.std.specs.Prelude.{◌==◌, codes, nat_le, nat_lt}
use Rattle.std.proofs.lemmas.Bool.{and_left, and_parts, and_right, cond_both, eq-eqb, eqb-false, eqb-true, leb-true, lt-leb, ltb-false, ne_eqb, not_from_true, or_cases, or_from, or_parts}
use Rattle.std.proofs.lemmas.List.Elements.{All-head, All-tail, All-weaker}
use Rattle.check_print.specs.declared.style.Style.{Style}
use Rattle.check_print.specs.Found.{Found, all_found}
use Rattle.check_print.specs.Printed.{printed_files, statistics}
use Rattle.check_print.specs.Statistics.{code_line}
use Rattle.check_print.specs.check_words.declared.request.Format.TheVariants as format
use Rattle.check_print.specs.checked_file.declared.checked.Checked.{Checked}
use Rattle.check_print.specs.lint_report.Codes.{name_of}
use Rattle.check_print.specs.report_lines.declared.concise.Order.{Order}
use Rattle.check_print.specs.report_lines.declared.concise.Order.TheVariants.{RuleFirst, RuleLast}
use Rattle.check_print.specs.report_lines.Github.{detail, encoded, encoded_byte, property, property_byte}
use Rattle.check_print.specs.source_file.declared.level.Level.{Level}
use Rattle.check_print.specs.source_file.declared.level.Level.TheVariants.{Warning, Error}
use Rattle.check_print.specs.source_file.Escaped.{escaped, escaped_name}
use Rattle.check_print.specs.source_file.File.{location}
use Rattle.check_print.specs.source_file.Levels.{word_of}
use Rattle.check_print.specs.source_file.Shown.{is_c1, is_embedding, is_isolate}
use Rattle.law_printed_lines.specs.Steering.{SteerNothing, has_steering}
use Rattle.law_printed_lines.specs.Escapes.{has_control, is_control}
use Rattle.law_printed_lines.specs.Unique.{IsShort, style_in}
use Rattle.law_printed_lines.proofs.Annotations.{annotation_text, details_text}
use Rattle.law_printed_lines.proofs.Commands.{after_lines, command_line, command_parts, lines_of, opened, title}
use Rattle.law_printed_lines.proofs.Controls.{ascii, control_from, written_free}
use Rattle.law_printed_lines.proofs.Escaping.{IsPlain}
use Rattle.law_printed_lines.proofs.Decimals.{IsDigit, decimal_digits}
use Rattle.law_printed_lines.proofs.Files.{IsGood, Prints, all_good, concise_prints, files_lines, gcc_prints, github_prints, line_of}
use Rattle.law_printed_lines.proofs.Lines.{line_parts, place_short, placed, rest_by}
use Rattle.law_printed_lines.proofs.Names.{code_name, is_name, is_name_byte}
use Rattle.law_printed_lines.proofs.Statistics.{Grows, regroup, statistics_hold}
use Rattle.law_printed_lines.proofs.Tests.{all_from_test}

abbrev Clean : List ℕ → Type 0
Clean l = has_steering l ≡ false

-- ---- ASCII

-- a line feed, or no control character of ASCII
abbrev IsText : ℕ → Type 0
IsText b = (b ≡ 10) ⊎ ((32 ≤ b) × (b ≤ 126))

byte_clean : (a : ℕ) (rest : List ℕ) → IsText a → Clean rest → Clean (a ∷ rest)
byte_clean a rest (inl e) h = or_from _ _ (and_left _ _ (not_from_true (a == 10) (eq-eqb a 10 e))) h
byte_clean a rest (inr sides) h = or_from _ _ (and_right _ _ (ascii a (get_or rest 0 0) (get_or rest 1 0) sides.0 sides.1)) h

all_clean : (xs rest : List ℕ) → All IsText xs → Clean rest → Clean (xs ++ rest)
all_clean [] rest all h = h
all_clean (x ∷ xs) rest all h = byte_clean x (xs ++ rest) (All-head IsText x xs all) (all_clean xs rest (All-tail IsText x xs all) h)

abbrev is_text : ℕ → Bool
is_text b = nat_le 32 b && nat_le b 126

is_text_true : (b : ℕ) → is_text b ≡ true → IsText b
is_text_true b e =
    let parts = and_parts (nat_le 32 b) (nat_le b 126) e in
    inr ((leb-true 32 b parts.0, leb-true b 126 parts.1))

-- a text that is known, and what comes after it
front_clean : (xs rest : List ℕ) → list_all is_text xs ≡ true → Clean rest → Clean (xs ++ rest)
front_clean xs rest e h = all_clean xs rest (all_from_test IsText is_text is_text_true xs e) h

number_clean : (n : ℕ) (rest : List ℕ) → n < 2 ^ 64 → Clean rest → Clean (decimal n ++ rest)
number_clean n rest low h =
    all_clean (decimal n) rest (All-weaker IsDigit IsText (λ d sides. inr ((omega (arith, sides.0), omega (arith, sides.1)))) (decimal n) (decimal_digits n low)) h

within : (low high b : ℕ) → 32 ≤ low → high ≤ 126 → (nat_le low b && nat_le b high) ≡ true → IsText b
within low high b h k e =
    let parts = and_parts (nat_le low b) (nat_le b high) e in
    let from = leb-true low b parts.0 in
    let to = leb-true b high parts.1 in
    inr ((omega arith, omega arith))

name_byte : (b : ℕ) → is_name_byte b ≡ true → IsText b
name_byte b e =
    elim (or_cases (nat_le 97 b && nat_le b 122 || (nat_le 48 b && nat_le b 57)) (b == 45) e) [
      | inr last ↦ let is = eqb-true b 45 last in inr ((omega arith, omega arith))
      | inl first ↦
          elim (or_cases (nat_le 97 b && nat_le b 122) (nat_le 48 b && nat_le b 57) first) [
            | inl letter ↦ within 97 122 b (omega arith) (omega arith) letter
            | inr digit ↦ within 48 57 b (omega arith) (omega arith) digit
          ]
    ]

name_clean : (name rest : List ℕ) → is_name name ≡ true → Clean rest → Clean (name ++ rest)
name_clean name rest e h = all_clean name rest (all_from_test IsText is_name_byte name_byte name e) h

word_clean : (v : Level) (rest : List ℕ) → Clean rest → Clean (word_of v ++ rest)
word_clean Warning rest h = front_clean (codes "warning") rest refl h
word_clean Error rest h = front_clean (codes "error") rest refl h

-- ---- texts that are escaped

abbrev IsLow : List ℕ → Type 0
IsLow rest = get_or rest 0 0 ≤ 127

record HasNone (a b c : ℕ) : Type 0 where
  plain : IsPlain a
  c1 : is_c1 a b ≡ false
  embedding : is_embedding a b c ≡ false
  isolate : is_isolate a b c ≡ false

none_from : (a b c : ℕ) → is_control a b c ≡ false → HasNone a b c
none_from a b c e =
    let isolate = or_parts (nat_lt a 32 || a == 127 || is_c1 a b || is_embedding a b c) (is_isolate a b c) e in
    let embedding = or_parts (nat_lt a 32 || a == 127 || is_c1 a b) (is_embedding a b c) isolate.0 in
    let c1 = or_parts (nat_lt a 32 || a == 127) (is_c1 a b) embedding.0 in
    let plain = or_parts (nat_lt a 32) (a == 127) c1.0 in
    record { plain = (ltb-false a 32 plain.0, eqb-false a 127 plain.1); c1 = c1.1; embedding = embedding.1; isolate = isolate.1 }

-- what comes after a text does not go on with such a character
kept_free : (a : ℕ) (xs rest : List ℕ) → IsLow rest → is_control a (get_or xs 0 0) (get_or xs 1 0) ≡ false
    → is_control a (get_or (xs ++ rest) 0 0) (get_or (xs ++ rest) 1 0) ≡ false
kept_free a [] rest low e =
    let b = get_or rest 0 0 in
    let c = get_or rest 1 0 in
    control_from a b c (none_from a 0 0 e).plain (and_left _ _ (and_right _ _ (lt-leb 128 b (omega arith))))
    (and_left _ _ (and_left _ _ (and_right _ _ (ne_eqb b 128 (λ f. omega arith)))))
    (and_left _ _ (and_left _ _ (and_right _ _ (ne_eqb b 129 (λ f. omega arith)))))
kept_free a (b ∷ []) rest low e =
    let c = get_or rest 0 0 in
    let none = none_from a b 0 e in
    control_from a b c none.plain none.c1 (and_left _ _ (and_right _ _ (lt-leb 170 c (omega arith)))) (and_left _ _ (and_right _ _ (lt-leb 166 c (omega arith))))
kept_free a (b ∷ c ∷ xs) rest low e = e

text_clean : (xs rest : List ℕ) → has_control xs ≡ false → IsLow rest → Clean rest → Clean (xs ++ rest)
text_clean [] rest e low h = h
text_clean (x ∷ xs) rest e low h =
    let parts = or_parts (is_control x (get_or xs 0 0) (get_or xs 1 0)) (has_control xs) e in
    or_from _ _ (and_right _ _ (kept_free x xs rest low parts.0)) (text_clean xs rest parts.1 low h)

encoded_clean : (text rest : List ℕ) → IsLow rest → Clean rest → Clean (encoded text ++ rest)
unfolding encoded
encoded_clean text rest low h = text_clean (encoded text) rest (written_free false 0 (flat_map encoded_byte text)) low h

property_clean : (text rest : List ℕ) → IsLow rest → Clean rest → Clean (property text ++ rest)
unfolding property
property_clean text rest low h = text_clean (property text) rest (written_free false 0 (flat_map property_byte text)) low h

message_clean : (text rest : List ℕ) → IsLow rest → Clean rest → Clean (escaped text ++ rest)
message_clean text rest low h = text_clean (escaped text) rest (written_free false 0 text) low h

-- ---- lines

feed_clean : (rest : List ℕ) → Clean rest → Clean (10 ∷ rest)
feed_clean rest h = byte_clean 10 rest (inl refl) h

placed_clean : (name : List ℕ) (line column : ℕ) (rest : List ℕ) → line < 2 ^ 64 → column < 2 ^ 64 → Clean rest → Clean (placed name line column rest)
placed_clean name line column rest hl hc h =
    let after_column = front_clean (codes ": ") rest refl h in
    let after_line = front_clean (codes ":") (decimal column ++ 58 ∷ 32 ∷ rest) refl (number_clean column (58 ∷ 32 ∷ rest) hc after_column) in
    let numbers = decimal line ++ 58 ∷ (decimal column ++ 58 ∷ 32 ∷ rest) in
    let after_name = front_clean (codes ":") numbers refl (number_clean line (58 ∷ (decimal column ++ 58 ∷ 32 ∷ rest)) hl after_line) in
    text_clean (escaped_name name) (58 ∷ numbers) (written_free true 0 name) (omega arith) after_name

last_regroup : (v : Level) (text name rest : List ℕ) → word_of v ++ 58 ∷ 32 ∷ (((text ++ 32 ∷ []) ++ 91 ∷ (name ++ 93 ∷ [])) ++ 10 ∷ rest)
    ≡ word_of v ++ 58 ∷ 32 ∷ (text ++ 32 ∷ 91 ∷ (name ++ 93 ∷ 10 ∷ rest))
last_regroup v text name rest = simp append_assoc

rest_clean : (order : Order) (v : Level) (name message rest : List ℕ) → is_name name ≡ true → Clean rest → Clean (rest_by order v name message rest)
rest_clean RuleFirst v name message rest e h =
    let after_rule = message_clean message (10 ∷ rest) (omega arith) (feed_clean rest h) in
    let rule = name_clean name (93 ∷ 58 ∷ 32 ∷ (escaped message ++ 10 ∷ rest)) e (front_clean (codes "]: ") (escaped message ++ 10 ∷ rest) refl after_rule) in
    word_clean v (91 ∷ (name ++ 93 ∷ 58 ∷ 32 ∷ (escaped message ++ 10 ∷ rest))) (front_clean (codes "[") (name ++ 93 ∷ 58 ∷ 32 ∷ (escaped message ++ 10 ∷ rest)) refl rule)
rest_clean RuleLast v name message rest e h =
    let end = name_clean name (93 ∷ 10 ∷ rest) e (front_clean (codes "]") (10 ∷ rest) refl (feed_clean rest h)) in
    let after_message = front_clean (codes " [") (name ++ 93 ∷ 10 ∷ rest) refl end in
    let body = message_clean message (32 ∷ 91 ∷ (name ++ 93 ∷ 10 ∷ rest)) (omega arith) after_message in
    let after_word = front_clean (codes ": ") (escaped message ++ 32 ∷ 91 ∷ (name ++ 93 ∷ 10 ∷ rest)) refl body in
    ap has_steering (last_regroup v (escaped message) name rest) ∙ word_clean v (58 ∷ 32 ∷ (escaped message ++ 32 ∷ 91 ∷ (name ++ 93 ∷ 10 ∷ rest))) after_word

line_clean : (order : Order) (f : Found) (rest : List ℕ) → IsGood f → Clean rest → Clean (line_of order f ++ rest)
line_clean order f rest good h =
    let short = place_short f.file.text f.range.start good.short in
    subst Clean (sym (line_parts order f.file f.range.start f.level f.rule f.message rest))
    (placed_clean f.file.name _ _ _ short.0 short.1 (rest_clean order f.level f.rule f.message rest good.named h))

-- ---- workflow commands

detail_low : (label : List ℕ) (text : Option (List ℕ)) (rest : List ℕ) → IsLow rest → IsLow (detail label text ++ rest)
detail_low label None rest low = low
detail_low label (Some text) rest low = omega arith

detail_regroup : (label text rest : List ℕ) → (((codes "%0A" ++ label) ++ codes ": ") ++ text) ++ rest ≡ codes "%0A" ++ (label ++ 58 ∷ 32 ∷ (text ++ rest))
detail_regroup label text rest = simp append_assoc

detail_clean : (label : List ℕ) (text : Option (List ℕ)) (rest : List ℕ) → list_all is_text label ≡ true → IsLow rest → Clean rest → Clean (detail label text ++ rest)
detail_clean label None rest e low h = h
detail_clean label (Some text) rest e low h =
    let after_label = front_clean (codes ": ") (encoded text ++ rest) refl (encoded_clean text rest low h) in
    let after_feed = front_clean label (58 ∷ 32 ∷ (encoded text ++ rest)) e after_label in
    ap has_steering (detail_regroup label (encoded text) rest) ∙ front_clean (codes "%0A") (label ++ 58 ∷ 32 ∷ (encoded text ++ rest)) refl after_feed

details_clean : (v : Level) (remark help : Option (List ℕ)) (rest : List ℕ) → IsLow rest → Clean rest → Clean (details_text v remark help ++ rest)
details_clean Warning remark help rest low h =
    subst Clean (sym (append_assoc (detail (codes "note") remark) (detail (codes "help") help) rest))
    (detail_clean (codes "note") remark (detail (codes "help") help ++ rest) refl (detail_low (codes "help") help rest low) (detail_clean (codes "help") help rest refl low h))
details_clean Error remark help rest low h = h

details_low : (v : Level) (remark help : Option (List ℕ)) (rest : List ℕ) → IsLow rest → IsLow (details_text v remark help ++ rest)
details_low Warning None help rest low = detail_low (codes "help") help rest low
details_low Warning (Some text) help rest low = omega arith
details_low Error remark help rest low = low

annotation_clean : (v : Level) (message : List ℕ) (remark help : Option (List ℕ)) (rest : List ℕ) → IsLow rest → Clean rest
    → Clean (annotation_text v message remark help ++ rest)
annotation_clean v message remark help rest low h =
    subst Clean (sym (append_assoc (encoded message) (details_text v remark help) rest))
    (encoded_clean message (details_text v remark help ++ rest) (details_low v remark help rest low) (details_clean v remark help rest low h))

title_clean : (rule text rest : List ℕ) → Clean (text ++ 10 ∷ rest) → Clean (title rule text rest)
title_clean rule text rest h =
    front_clean (codes "title=") (property rule ++ 58 ∷ 58 ∷ (text ++ 10 ∷ rest)) refl (property_clean rule (58 ∷ 58 ∷ (text ++ 10 ∷ rest)) (omega arith) (front_clean (codes "::") (text ++ 10 ∷ rest) refl h))

columns_clean : (t : Bool) (c d : ℕ) (rest : List ℕ) → c < 2 ^ 64 → d < 2 ^ 64 → Clean rest → Clean (after_lines t c d rest)
columns_clean true c d rest hc hd h =
    let last = number_clean d (44 ∷ rest) hd (front_clean (codes ",") rest refl h) in
    let first = number_clean c (codes ",endColumn=" ++ decimal d ++ 44 ∷ rest) hc (front_clean (codes ",endColumn=") (decimal d ++ 44 ∷ rest) refl last) in
    front_clean (codes "col=") (decimal c ++ (codes ",endColumn=" ++ decimal d ++ 44 ∷ rest)) refl first
columns_clean false c d rest hc hd h = h

lines_clean : (l k : ℕ) (rest : List ℕ) → l < 2 ^ 64 → k < 2 ^ 64 → Clean rest → Clean (lines_of l k rest)
lines_clean l k rest hl hk h =
    let last = number_clean k (44 ∷ rest) hk (front_clean (codes ",") rest refl h) in
    let first = number_clean l (codes ",endLine=" ++ decimal k ++ 44 ∷ rest) hl (front_clean (codes ",endLine=") (decimal k ++ 44 ∷ rest) refl last) in
    front_clean (codes "line=") (decimal l ++ (codes ",endLine=" ++ decimal k ++ 44 ∷ rest)) refl first

opened_clean : (v : Level) (name rest : List ℕ) → Clean rest → Clean (opened v name rest)
opened_clean v name rest h =
    let after_name = property_clean name (44 ∷ rest) (omega arith) (front_clean (codes ",") rest refl h) in
    let after_word = front_clean (codes " file=") (property name ++ 44 ∷ rest) refl after_name in
    let word = word_clean v (codes " file=" ++ (property name ++ 44 ∷ rest)) after_word in
    front_clean (codes "::") (word_of v ++ (codes " file=" ++ (property name ++ 44 ∷ rest))) refl word

command_clean : (f : Found) (rest : List ℕ) → IsGood f → Clean rest → Clean (command_line f ++ rest)
command_clean f rest good h =
    let first = location f.file.text f.range.start in
    let last = location f.file.text f.range.end in
    let first_short = place_short f.file.text f.range.start good.short in
    let last_short = place_short f.file.text f.range.end good.short in
    let text = annotation_text f.level f.message f.note f.help in
    let body = title_clean f.rule text rest (annotation_clean f.level f.message f.note f.help (10 ∷ rest) (omega arith) (feed_clean rest h)) in
    let one_line = first.line == last.line in
    let columns = columns_clean one_line first.column last.column (title f.rule text rest) first_short.1 last_short.1 body in
    let lines = lines_clean first.line last.line (after_lines one_line first.column last.column (title f.rule text rest)) first_short.0 last_short.0 columns in
    subst Clean (sym (command_parts f rest)) (opened_clean f.level f.file.name _ lines)

-- ---- files

count_clean : Grows Clean
unfolding code_line
count_clean c n rest low h =
    let number = number_clean n (10 ∷ rest) low (feed_clean rest h) in
    cond_both (n == 0) _ _ (λ l. Clean (l ++ rest)) (λ _. h)
    (λ _. subst Clean (sym (regroup (name_of c) (decimal n) rest)) (name_clean (name_of c) (58 ∷ 32 ∷ (decimal n ++ 10 ∷ rest)) (code_name c) (front_clean (codes ": ") (decimal n ++ 10 ∷ rest) refl number)))

found_clean : (line : Found → List ℕ) → ((f : Found) (rest : List ℕ) → IsGood f → Clean rest → Clean (line f ++ rest)) → (fs : List Found) (rest : List ℕ) → All IsGood fs → Clean rest
    → Clean (flat_map line fs ++ rest)
found_clean line one [] rest good h = h
found_clean line one (f ∷ fs) rest good h =
    subst Clean (sym (append_assoc (line f) (flat_map line fs) rest))
    (one f (flat_map line fs ++ rest) (All-head IsGood f fs good) (found_clean line one fs rest (All-tail IsGood f fs good) h))

files_clean : (line : Found → List ℕ) → ((f : Found) (rest : List ℕ) → IsGood f → Clean rest → Clean (line f ++ rest)) → (style : Style) → Prints style line → (files : List Checked) → All IsShort files
    → Clean (printed_files style false files ++ statistics style files)
files_clean line one style prints files short =
    subst Clean (ap (λ l. l ++ statistics style files) (sym (files_lines style line prints false files)))
    (found_clean line one (all_found files) (statistics style files) (all_good files short) (statistics_hold Clean refl count_clean style files))

pub steer_nothing : SteerNothing
steer_nothing style files short = (
  files_clean (line_of RuleFirst) (line_clean RuleFirst) (style_in format.Concise style) (concise_prints style) files short,
  files_clean (line_of RuleLast) (line_clean RuleLast) (style_in format.Gcc style) (gcc_prints style) files short,
  files_clean command_line command_clean (style_in format.Github style) (github_prints style) files short,
)
