-- The first two rows of a finding: its title, and where it is.
use Rattle.std.proofs.Common.{◌≡◌, ◌∙◌, ℕ, ◌==◌, Bool, true, false, List, [], ◌∷◌, ◌++◌, ap, append_assoc, arith, codes, if◌then◌else◌, get_or, refl, sym}
use Rattle.std.proofs.lemmas.List.{append_cancel_left, append_cancel_right}
use Rattle.std.proofs.lemmas.Bool.Decides.{nat_tests}
use Rattle.std.specs.List.{list_all}
use Rattle.law_printed_lines.specs.report_text.Layouts.{blanks}
use Rattle.law_printed_lines.specs.report_text.Paint.{closed}
use Rattle.law_printed_lines.specs.report_text.Report.{title}
use Rattle.law_printed_lines.specs.source_file.declared.level.Level.{Level}
use Rattle.law_printed_lines.specs.source_file.declared.level.Level.TheVariants.{Warning, Error}
use Rattle.law_printed_lines.specs.source_file.Escaped.{escaped}
use Rattle.law_printed_lines.specs.source_file.Levels.{word_of}
use Rattle.law_printed_text.proofs.Cuts.{cut, rest_of_two}
use Rattle.law_printed_lines.proofs.Names.{is_name, is_name_byte}
use Rattle.law_printed_text.proofs.Pieces.{blanks_clean, bold, closed_clean, escaped_clean, frame, level_plain, of_level, passes, repeated, shell, shell_clean, shell_piece, solid}
use Rattle.law_printed_text.proofs.Rows.{IsClean, IsPiece, IsRows, back, both, front, is_plain, row, word}

name_plain : (b : ℕ) → is_name_byte b ≡ true → is_plain b ≡ true
name_plain b e = grind (arith, nat_tests)

pub name_clean : (name : List ℕ) → is_name name ≡ true → IsClean name
name_clean name e = word name (passes is_name_byte is_plain name_plain name e)

-- ---- the title

word_piece : (level : Level) → IsPiece (word_of level)
word_piece Warning = solid (codes "warning") refl refl
word_piece Error = solid (codes "error") refl refl

pub title_row : (color : Bool) (level : Level) (name message : List ℕ) → is_name name ≡ true → IsRows (title color level name message)
unfolding title
title_row color level name message e =
    row (front (shell_piece color (of_level level) (level_plain level)
    (front (front (front (word_piece level) (word (codes "[") refl)) (name_clean name e)) (word (codes "]") refl)))
    (shell_clean color bold refl (both (word (codes ": ") refl) (escaped_clean false message))))

-- what is before the name in it
abbrev lead : Bool → Level → List ℕ
lead color level = (if color then 27 ∷ of_level level else []) ++ (word_of level ++ codes "[")

-- what is between the name and the message
abbrev between : Bool → List ℕ
between color = closed color ++ ((if color then 27 ∷ bold else []) ++ codes ": ")

title_is : (color : Bool) (level : Level) (name message x : List ℕ)
    → title color level name message ++ x ≡ lead color level ++ (name ++ 93 ∷ (between color ++ ((escaped message ++ closed color) ++ 10 ∷ x)))
unfolding title
title_is color level name message x = simp append_assoc

-- the name, the message, and what is after them
abbrev ending : Bool → List ℕ → List ℕ → List ℕ → List ℕ
ending color name message x = name ++ 93 ∷ (between color ++ ((escaped message ++ closed color) ++ 10 ∷ x))

-- a text that is painted begins with another byte than one that is not
same_color : (color paint : Bool) (level other : Level) (l m : List ℕ) → lead color level ++ l ≡ lead paint other ++ m → color ≡ paint
same_color true true level other l m e = refl
same_color false false level other l m e = refl
same_color true false level Warning l m e = let h : 27 ≡ 119 = ap (λ t. get_or t 0 0) e in absurd (omega (arith, h))
same_color true false level Error l m e = let h : 27 ≡ 101 = ap (λ t. get_or t 0 0) e in absurd (omega (arith, h))
same_color false true Warning other l m e = let h : 119 ≡ 27 = ap (λ t. get_or t 0 0) e in absurd (omega (arith, h))
same_color false true Error other l m e = let h : 101 ≡ 27 = ap (λ t. get_or t 0 0) e in absurd (omega (arith, h))

pub title_color : (color paint : Bool) (level other : Level) (name another message text x y : List ℕ)
    → title color level name message ++ x ≡ title paint other another text ++ y → color ≡ paint
title_color color paint level other name another message text x y e =
    same_color color paint level other (ending color name message x) (ending paint another text y)
    (sym (title_is color level name message x) ∙ e ∙ title_is paint other another text y)

same_level : (color : Bool) (level other : Level) (l m : List ℕ) → lead color level ++ l ≡ lead color other ++ m → level ≡ other
same_level color Warning Warning l m e = refl
same_level color Error Error l m e = refl
same_level true Warning Error l m e = let h : 53 ≡ 49 = ap (λ t. get_or t 5 0) e in absurd (omega (arith, h))
same_level true Error Warning l m e = let h : 49 ≡ 53 = ap (λ t. get_or t 5 0) e in absurd (omega (arith, h))
same_level false Warning Error l m e = let h : 119 ≡ 101 = ap (λ t. get_or t 0 0) e in absurd (omega (arith, h))
same_level false Error Warning l m e = let h : 101 ≡ 119 = ap (λ t. get_or t 0 0) e in absurd (omega (arith, h))

message_plain : (color : Bool) (message : List ℕ) → list_all is_plain (escaped message ++ closed color) ≡ true
message_plain color message = (both (escaped_clean false message) (closed_clean color)).clean

-- two titles that begin the same text are the same
pub title_back : (color : Bool) (level other : Level) (name another message text x y : List ℕ) → is_name name ≡ true → is_name another ≡ true
    → title color level name message ++ x ≡ title color other another text ++ y → (level ≡ other) × (name ≡ another) × (escaped message ≡ escaped text) × (x ≡ y)
title_back color level other name another message text x y h k e =
    let whole = sym (title_is color level name message x) ∙ e ∙ title_is color other another text y in
    let levels = same_level color level other (ending color name message x) (ending color another text y) whole in
    let after_lead : ending color name message x ≡ ending color another text y =
    append_cancel_left (lead color other) _ _ (ap (λ v. lead color v ++ ending color name message x) (sym levels) ∙ whole) in
    let names = cut is_name_byte name another _ _ 93 93 h k refl refl after_lead in
    let messages = append_cancel_left (between color) _ _ (rest_of_two names.1) in
    let lines = cut is_plain (escaped message ++ closed color) (escaped text ++ closed color) x y 10 10 (message_plain color message) (message_plain color text) refl refl messages in
    (levels, names.0, append_cancel_right (escaped message) (escaped text) (closed color) lines.0, rest_of_two lines.1)

-- ---- the row of the place

-- what is before the name of a file: `--> `
abbrev pub arrow_mark : Bool → List ℕ
arrow_mark color = shell color frame (codes "-->") ++ codes " "

pub arrow_mark_piece : (color : Bool) → IsPiece (arrow_mark color)
arrow_mark_piece color = front (shell_piece color frame refl (solid (codes "-->") refl refl)) (word (codes " ") refl)

-- a row with an arrow
abbrev pub arrow_row : Bool → ℕ → List ℕ → List ℕ
arrow_row color gutter place = blanks gutter ++ (arrow_mark color ++ place) ++ codes "\n"

pub arrow_rows : (color : Bool) (gutter : ℕ) (place : List ℕ) → IsClean place → IsRows (arrow_row color gutter place)
arrow_rows color gutter place p = row (back (blanks_clean gutter) (front (arrow_mark_piece color) p))

-- such rows that begin the same text lead to the same place, however many blanks are before the arrow
after_blanks : (g k c : ℕ) (m x y : List ℕ) → (c == 32) ≡ false → blanks g ++ c ∷ (m ++ x) ≡ blanks k ++ c ∷ (m ++ y) → x ≡ y
after_blanks g k c m x y h e =
    let test : ℕ → Bool = λ b. b == 32 in
    let rest = cut test (blanks g) (blanks k) (m ++ x) (m ++ y) c c (repeated test g 32 refl) (repeated test k 32 refl) h h e in
    append_cancel_left m x y (rest_of_two rest.1)

row_is : (color : Bool) (gutter : ℕ) (place x : List ℕ) → arrow_row color gutter place ++ x ≡ blanks gutter ++ (arrow_mark color ++ (place ++ 10 ∷ x))
row_is color gutter place x = simp append_assoc

after_mark : (color : Bool) (g k : ℕ) (x y : List ℕ) → blanks g ++ (arrow_mark color ++ x) ≡ blanks k ++ (arrow_mark color ++ y) → x ≡ y
after_mark true g k x y e = after_blanks g k 27 (frame ++ codes "-->" ++ (27 ∷ codes "[0m") ++ codes " ") x y refl e
after_mark false g k x y e = after_blanks g k 45 (codes "-> ") x y refl e

pub arrow_back : (color : Bool) (g k : ℕ) (place other x y : List ℕ) → IsClean place → IsClean other → arrow_row color g place ++ x ≡ arrow_row color k other ++ y
    → place ≡ other
arrow_back color g k place other x y h w e =
    let rest = after_mark color g k (place ++ 10 ∷ x) (other ++ 10 ∷ y) (sym (row_is color g place x) ∙ e ∙ row_is color k other y) in
    (cut is_plain place other x y 10 10 h.clean w.clean refl refl rest).0
