-- A workflow command leads back to its finding, whatever comes after it.
use Rattle.std.proofs.Common.{◌≡◌, ◌∙◌, ℕ, ◌<◌, ◌≤◌, ◌^◌, Bool, true, false, if◌then◌else◌, List, [], ◌∷◌, ◌++◌, All, Option, Some, None, ap, append_assoc, arith, refl, sym}
use Rattle.std.specs.Fmt.{decimal}
use Rattle.std.specs.Prelude.{◌==◌, codes}
use Rattle.std.proofs.lemmas.Fmt.{decimal_injective}
use Rattle.std.proofs.lemmas.List.{append_cancel_left}
use Rattle.std.proofs.lemmas.List.Elements.{All-weaker}
use Rattle.check_print.specs.Found.{Found}
use Rattle.check_print.specs.report_lines.Github.{columns_part, command, encoded, lines_part, opening, property, span, titled}
use Rattle.check_print.specs.source_file.declared.level.Level.{Level}
use Rattle.check_print.specs.source_file.File.{FileValue, location}
use Rattle.check_print.specs.source_file.Levels.{word_of}
use Rattle.check_print.specs.text_pos.Range.{Range}
use Rattle.law_printed_lines.proofs.Annotations.{annotation_text, details_text}
use Rattle.law_printed_lines.proofs.Decimals.{decimal_free}
use Rattle.law_printed_lines.proofs.Lines.{same_word}
use Rattle.law_printed_lines.proofs.Percents.{IsInside, property_inside, property_same}
use Rattle.law_printed_lines.proofs.Splits.{split_first}

-- ---- its parts

-- what comes after the lines: the columns, where there are some, and the rest
abbrev pub after_lines : Bool → ℕ → ℕ → List ℕ → List ℕ
after_lines true c d rest = codes "col=" ++ (decimal c ++ 44 ∷ (codes "endColumn=" ++ (decimal d ++ 44 ∷ rest)))
after_lines false c d rest = rest

abbrev pub title : List ℕ → List ℕ → List ℕ → List ℕ
title rule text rest = codes "title=" ++ (property rule ++ 58 ∷ 58 ∷ (text ++ 10 ∷ rest))

abbrev pub lines_of : ℕ → ℕ → List ℕ → List ℕ
lines_of l k rest = codes "line=" ++ (decimal l ++ 44 ∷ (codes "endLine=" ++ (decimal k ++ 44 ∷ rest)))

abbrev pub opened : Level → List ℕ → List ℕ → List ℕ
opened v name rest = 58 ∷ 58 ∷ (word_of v ++ (codes " file=" ++ (property name ++ 44 ∷ rest)))

columns_parts : (t : Bool) (c d : ℕ) (rest : List ℕ)
    → (if t then codes ",col=" ++ decimal c ++ codes ",endColumn=" ++ decimal d else []) ++ 44 ∷ rest ≡ 44 ∷ after_lines t c d rest
columns_parts true c d rest = simp append_assoc
columns_parts false c d rest = refl

opening_parts : (file : FileValue) (v : Level) (rest : List ℕ) → opening file v ++ 44 ∷ rest ≡ opened v file.name rest
unfolding opening
opening_parts file v rest = simp append_assoc

span_parts : (file : FileValue) (range : Range) (rest : List ℕ) → span file range ++ 44 ∷ rest
    ≡ 44 ∷ lines_of (location file.text range.start).line (location file.text range.end).line (after_lines
    ((location file.text range.start).line == (location file.text range.end).line) (location file.text range.start).column (location file.text range.end).column rest)
unfolding span
span_parts file range rest =
    let first = location file.text range.start in
    let last = location file.text range.end in
    append_assoc (lines_part first last) (columns_part first last) (44 ∷ rest)
    ∙ ap (λ l. lines_part first last ++ l) (columns_parts (first.line == last.line) first.column last.column rest)
    ∙ simp append_assoc

title_parts : (rule message rest : List ℕ) → titled rule message ++ rest ≡ 44 ∷ (codes "title=" ++ (property rule ++ 58 ∷ 58 ∷ (encoded message ++ rest)))
unfolding titled
title_parts rule message rest = simp append_assoc

-- a command with its details and its line feed
abbrev pub command_line : Found → List ℕ
command_line f = command f.file f.range f.level f.rule f.message ++ details_text f.level f.note f.help ++ codes "\n"

-- the same by its parts, and what comes after it
abbrev pub commanded : Found → List ℕ → List ℕ
commanded f rest =
    let first = location f.file.text f.range.start in
    let last = location f.file.text f.range.end in
    opened f.level f.file.name
    (lines_of first.line last.line (after_lines (first.line == last.line) first.column last.column (title f.rule (annotation_text f.level f.message f.note f.help) rest)))

regroup : (o s t d r : List ℕ) → ((((o ++ s) ++ t) ++ d) ++ 10 ∷ []) ++ r ≡ o ++ (s ++ (t ++ (d ++ 10 ∷ r)))
regroup o s t d r = simp append_assoc

pub command_parts : (f : Found) (rest : List ℕ) → command_line f ++ rest ≡ commanded f rest
command_parts f rest =
    let details = details_text f.level f.note f.help in
    let text = annotation_text f.level f.message f.note f.help in
    let front = opening f.file f.level in
    let range = span f.file f.range in
    regroup front range (titled f.rule f.message) details rest
    ∙ ap (λ l. front ++ (range ++ l)) (title_parts f.rule f.message (details ++ 10 ∷ rest))
    ∙ ap (λ l. front ++ (range ++ 44 ∷ (codes "title=" ++ (property f.rule ++ 58 ∷ 58 ∷ l)))) (sym (append_assoc (encoded f.message) details (10 ∷ rest)))
    ∙ ap (λ l. front ++ l) (span_parts f.file f.range (title f.rule text rest))
    ∙ opening_parts f.file f.level _

-- ---- what is the same

comma_free : (text : List ℕ) → All (λ b. b ≡ 44 → ⊥) (property text)
comma_free text = All-weaker IsInside (λ b. b ≡ 44 → ⊥) (λ b h. h.0) (property text) (property_inside text)

colon_free : (text : List ℕ) → All (λ b. b ≡ 58 → ⊥) (property text)
colon_free text = All-weaker IsInside (λ b. b ≡ 58 → ⊥) (λ b h. h.1) (property text) (property_inside text)

pub same_opening : (v w : Level) (n m r s : List ℕ) → opened v n r ≡ opened w m s → (v ≡ w) × (n ≡ m) × (r ≡ s)
same_opening v w n m r s e =
    let first = same_word v w _ _ (append_cancel_left (58 ∷ 58 ∷ []) _ _ e) in
    let second = split_first 44 (property n) (property m) r s (comma_free n) (comma_free m) (append_cancel_left (codes " file=") _ _ first.1) in
    (first.0, property_same n m second.0, second.1)

-- two numbers that a comma ends
same_number : (n m : ℕ) (r s : List ℕ) → n < 2 ^ 64 → m < 2 ^ 64 → decimal n ++ 44 ∷ r ≡ decimal m ++ 44 ∷ s → (n ≡ m) × (r ≡ s)
same_number n m r s h k e =
    let no_digit : (48 ≤ 44) × (44 ≤ 57) → ⊥ = λ p. omega (arith, p.0) in
    let parts = split_first 44 (decimal n) (decimal m) r s (decimal_free 44 n no_digit h) (decimal_free 44 m no_digit k) e in
    (decimal_injective n m h k parts.0, parts.1)

pub same_lines : (l k i j : ℕ) (r s : List ℕ) → l < 2 ^ 64 → k < 2 ^ 64 → i < 2 ^ 64 → j < 2 ^ 64 → lines_of l k r ≡ lines_of i j s → (l ≡ i) × (k ≡ j) × (r ≡ s)
same_lines l k i j r s hl hk hi hj e =
    let first = same_number l i _ _ hl hi (append_cancel_left (codes "line=") _ _ e) in
    let second = same_number k j r s hk hj (append_cancel_left (codes "endLine=") _ _ first.1) in
    (first.0, second.0, second.1)

abbrev pub columns_by : Bool → ℕ → ℕ → Option (ℕ × ℕ)
columns_by t c d = if t then Some (c, d) else None

pub same_columns : (t u : Bool) (c d i j : ℕ) (r s : List ℕ) → t ≡ u → c < 2 ^ 64 → d < 2 ^ 64 → i < 2 ^ 64 → j < 2 ^ 64 → after_lines t c d r ≡ after_lines u i j s
    → (columns_by t c d ≡ columns_by u i j) × (r ≡ s)
same_columns true false c d i j r s same hc hd hi hj e = cc
same_columns false true c d i j r s same hc hd hi hj e = cc
same_columns false false c d i j r s same hc hd hi hj e = (refl, e)
same_columns true true c d i j r s same hc hd hi hj e =
    let first = same_number c i _ _ hc hi (append_cancel_left (codes "col=") _ _ e) in
    let second = same_number d j r s hd hj (append_cancel_left (codes "endColumn=") _ _ first.1) in
    (ap (λ n. columns_by true n d) first.0 ∙ ap (λ n. columns_by true i n) second.0, second.1)

line_free : (text : List ℕ) → All (λ b. 32 ≤ b) text → All (λ b. b ≡ 10 → ⊥) text
line_free text h = All-weaker (λ b. 32 ≤ b) (λ b. b ≡ 10 → ⊥) (λ b low e. omega arith) text h

pub same_title : (n m p q r s : List ℕ) → All (λ b. 32 ≤ b) p → All (λ b. 32 ≤ b) q → title n p r ≡ title m q s → (n ≡ m) × (p ≡ q) × (r ≡ s)
same_title n m p q r s h k e =
    let first = split_first 58 (property n) (property m) _ _ (colon_free n) (colon_free m) (append_cancel_left (codes "title=") _ _ e) in
    let second = split_first 10 p q r s (line_free p h) (line_free q k) (append_cancel_left (58 ∷ []) _ _ first.1) in
    (property_same n m first.0, second.0, second.1)
