-- A finding of a file, as it is printed and as it is kept.
use Rattle.std.proofs.Common.{◌≡◌, ◌∙◌, ℕ, ◌<◌, ◌==◌, ◌||◌, ◌^◌, Bool, true, false, List, ◌++◌, ◌⊎◌, inl, inr, Some, ap, get_or, length, refl, sym}
use Rattle.std.specs.Str.{chars}
use Rattle.law_printed_lines.specs.check_print.Found.{Found, found_refusal, found_report}
use Rattle.law_printed_lines.specs.lint_report.declared.report.Report.{Report}
use Rattle.law_printed_lines.specs.report_text.Report.{printed_refusal, printed_report}
use Rattle.law_printed_lines.specs.source_file.declared.level.Level.{Level}
use Rattle.law_printed_lines.specs.source_file.declared.level.Level.TheVariants.{Warning, Error}
use Rattle.law_printed_lines.specs.source_file.declared.place.Place.{Place}
use Rattle.law_printed_lines.specs.source_file.declared.refusal.Refusal.{Refusal}
use Rattle.law_printed_lines.specs.source_file.declared.refusal.Refusal.TheVariants as refusal
use Rattle.law_printed_lines.specs.source_file.Escaped.{escaped}
use Rattle.law_printed_lines.specs.source_file.File.{FileValue, location}
use Rattle.law_printed_lines.specs.source_file.Refusals as refusals
use Rattle.law_printed_lines.specs.Kept.{Kept, kept}
use Rattle.law_printed_lines.proofs.Escaping.{written_same}
use Rattle.law_printed_text.proofs.Findings.{IsBlock, block_back, block_color, block_end, place_back, place_clean, place_text, refusal_block, report_block}
use Rattle.law_printed_lines.proofs.Names.{code_name, is_name, refusal_name}
use Rattle.law_printed_lines.proofs.Places.{column_short, line_short}
use Rattle.law_printed_text.proofs.Rows.{after_empty}

-- a report of a file, or why it could not be linted
abbrev pub Item : Type 0
Item = FileValue × (Report ⊎ Refusal)

abbrev pub found_by : FileValue → Report ⊎ Refusal → Found
found_by file (inl r) = found_report file r
found_by file (inr r) = found_refusal file r

abbrev pub found_of : Item → Found
found_of i = found_by i.0 i.1

abbrev pub text_by : Bool → FileValue → Report ⊎ Refusal → List ℕ
text_by color file (inl r) = printed_report color file r
text_by color file (inr r) = printed_refusal color file r

-- what is printed of it
abbrev pub text_of : Bool → Item → List ℕ
text_of color i = text_by color i.0 i.1

-- whether a place is printed of it
abbrev placed_by : Report ⊎ Refusal → Bool
placed_by (inl r) = true
placed_by (inr r) = refusals.has_place r

-- where it begins
abbrev start_of : Item → Place
start_of i = location i.0.text (found_of i).range.start

abbrev place_of : Item → List ℕ
place_of i = place_text (placed_by i.1) i.0.name (start_of i).line (start_of i).column

block_of : (color : Bool) (i : Item) → IsBlock color (found_of i).level (found_of i).rule (found_of i).message (place_of i) (text_of color i)
block_of color (file, inl r) = report_block color file r
block_of color (file, inr r) = refusal_block color file r

rule_name : (i : Item) → is_name (found_of i).rule ≡ true
rule_name (file, inl r) = code_name r.code
rule_name (file, inr r) = refusal_name r

-- it ends with its first empty line
pub item_end : (color : Bool) (i : Item) (rest : List ℕ) → after_empty true (text_of color i ++ rest) ≡ Some rest
item_end color i rest =
    let f = found_of i in
    block_end color f.level f.rule f.message (place_of i) (text_of color i) rest (block_of color i) (rule_name i)
    (place_clean (placed_by i.1) i.0.name (start_of i).line (start_of i).column)

-- two that begin the same text are both painted, or neither is
pub item_color : (color paint : Bool) (i j : Item) (x y : List ℕ) → text_of color i ++ x ≡ text_of paint j ++ y → color ≡ paint
item_color color paint i j x y e =
    let f = found_of i in
    let g = found_of j in
    block_color color paint f.level g.level f.rule g.rule f.message g.message (place_of i) (place_of j) (text_of color i) (text_of paint j) x y (block_of color i) (block_of paint j) e

-- ---- the name of a refusal tells whether it has a place

-- by the third letter of the name
abbrev is_placed : Level → List ℕ → Bool
is_placed Warning rule = true
is_placed Error rule = get_or rule 2 0 == 116 || get_or rule 2 0 == 110

placed_is : (i : Item) → placed_by i.1 ≡ is_placed (found_of i).level (found_of i).rule
placed_is (file, inl r) = refl
placed_is (file, inr refusal.Missing) = refl
placed_is (file, inr refusal.Unreadable) = refl
placed_is (file, inr (refusal.NotUtf8 at)) = refl
placed_is (file, inr refusal.TooLong) = refl
placed_is (file, inr (refusal.Unterminated at)) = refl
placed_is (file, inr (refusal.Syntax at)) = refl

-- the first place of a text, which is that of a refusal without one
first_place : Place
first_place = record { line = 1; column = 1 }

start_at : (i : Item) → placed_by i.1 ≡ false → start_of i ≡ first_place
unfolding first_place chars
start_at (file, inl r) e = cc
start_at (file, inr refusal.Missing) e = refl
start_at (file, inr refusal.Unreadable) e = refl
start_at (file, inr (refusal.NotUtf8 at)) e = cc
start_at (file, inr refusal.TooLong) e = refl
start_at (file, inr (refusal.Unterminated at)) e = cc
start_at (file, inr (refusal.Syntax at)) e = cc

-- ---- what is printed leads back to what is kept

abbrev pub IsShortItem : Item → Type 0
IsShortItem i = length i.0.text < 2 ^ 32

-- the names and the places, where the places are printed alike
places_by : (i j : Item) (placed another : Bool) → IsShortItem i → IsShortItem j → placed_by i.1 ≡ placed → placed_by j.1 ≡ placed → another ≡ placed
    → place_text placed i.0.name (start_of i).line (start_of i).column ≡ place_text another j.0.name (start_of j).line (start_of j).column
    → (escaped i.0.name ≡ escaped j.0.name) × ((start_of i).line ≡ (start_of j).line) × ((start_of i).column ≡ (start_of j).column)
places_by i j true true h k p q o e =
    let at = (found_of i).range.start in
    let by = (found_of j).range.start in
    place_back i.0.name j.0.name (start_of i).line (start_of j).line (start_of i).column (start_of j).column (line_short i.0.text at h) (line_short j.0.text by k)
    (column_short i.0.text at h) (column_short j.0.text by k) e
places_by i j false false h k p q o e =
    let same : start_of i ≡ start_of j = start_at i p ∙ sym (start_at j q) in
    (e, ap (λ (v : Place). v.line) same, ap (λ (v : Place). v.column) same)
places_by i j true false h k p q o e = cc
places_by i j false true h k p q o e = cc

abbrev as_kept : List ℕ → ℕ → ℕ → Level → List ℕ → List ℕ → Kept
as_kept name line column level rule message = record { name = name; line = line; column = column; level = level; rule = rule; message = message }

same_kept : (n n' : List ℕ) (l l' c c' : ℕ) (v v' : Level) (r r' m m' : List ℕ) → n ≡ n' → l ≡ l' → c ≡ c' → v ≡ v' → r ≡ r' → m ≡ m'
    → as_kept n l c v r m ≡ as_kept n' l' c' v' r' m'
same_kept n n' l l' c c' v v' r r' m m' a b d e f g =
    ap (λ t. as_kept t l c v r m) a ∙ ap (λ t. as_kept n' t c v r m) b ∙ ap (λ t. as_kept n' l' t v r m) d ∙ ap (λ t. as_kept n' l' c' t r m) e
    ∙ ap (λ t. as_kept n' l' c' v' t m) f ∙ ap (λ t. as_kept n' l' c' v' r' t) g

kept_is : (i : Item)
    → kept (found_of i) ≡ as_kept i.0.name (start_of i).line (start_of i).column (found_of i).level (found_of i).rule (found_of i).message
kept_is (file, inl r) = refl
kept_is (file, inr r) = refl

pub item_back : (color : Bool) (i j : Item) → IsShortItem i → IsShortItem j → text_of color i ≡ text_of color j → kept (found_of i) ≡ kept (found_of j)
item_back color i j h k e =
    let f = found_of i in
    let g = found_of j in
    let back =
    block_back color f.level g.level f.rule g.rule f.message g.message (place_of i) (place_of j) (text_of color i) (text_of color j) (block_of color i) (block_of color j)
    (rule_name i) (rule_name j) (place_clean (placed_by i.1) i.0.name (start_of i).line (start_of i).column)
    (place_clean (placed_by j.1) j.0.name (start_of j).line (start_of j).column) e in
    let both : placed_by j.1 ≡ placed_by i.1 = placed_is j ∙ ap (λ v. is_placed v g.rule) (sym back.0) ∙ ap (λ n. is_placed f.level n) (sym back.1) ∙ sym (placed_is i) in
    let places = places_by i j (placed_by i.1) (placed_by j.1) h k refl both both back.3 in
    kept_is i
    ∙ same_kept i.0.name j.0.name (start_of i).line (start_of j).line (start_of i).column (start_of j).column f.level g.level f.rule g.rule f.message g.message
    (written_same false i.0.name j.0.name places.0) places.1 places.2 back.0 back.1 (written_same false f.message g.message back.2)
    ∙ sym (kept_is j)
