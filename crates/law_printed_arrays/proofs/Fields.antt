-- From the outline of a value back to the fields that it was made of.
use Rattle.std.proofs.Common.{◌≡◌, ◌∙◌, ◌<◌, ◌^◌, ℕ, List, [], Option, Some, None, ap, length, refl, suc, zero}
use Rattle.std.proofs.lemmas.Fmt.{decimal_injective}
use Rattle.std.specs.Prelude.{decimal}
use Rattle.json.specs.Json as json
use Rattle.law_printed_lines.specs.json_value.Values.{text_data}
use Rattle.law_printed_lines.specs.lint_base.declared.edit.Edit.{Edit}
use Rattle.law_printed_lines.specs.lint_report.declared.fix_class.FixClass.{FixClass}
use Rattle.law_printed_lines.specs.lint_report.declared.fix_class.FixClass.TheVariants.{Safe, Unsafe, Template}
use Rattle.law_printed_lines.specs.lint_report.declared.report.ReportFix.{ReportFix}
use Rattle.law_printed_lines.specs.lint_report.FixClasses as classes
use Rattle.serde_json.specs.Written.{outline}
use Rattle.law_printed_lines.specs.source_file.declared.level.Level.{Level}
use Rattle.law_printed_lines.specs.source_file.declared.level.Level.TheVariants.{Warning, Error}
use Rattle.law_printed_lines.specs.source_file.declared.place.Place.{Place}
use Rattle.law_printed_lines.specs.source_file.File.{location}
use Rattle.law_printed_lines.specs.source_file.Levels.{word_of}
use Rattle.law_printed_lines.specs.text_pos.Range.{Range}
use Rattle.law_printed_arrays.specs.Kept.{KeptFinding}
use Rattle.law_printed_lines.proofs.Places.{column_short, line_short}
use Rattle.law_printed_arrays.proofs.Shapes.{first_in, items_in}

-- ---- parts of a value

-- the value of the member at a place
abbrev pub value_at : ℕ → json.Members → json.Json
value_at n json.no_members = json.null
value_at zero (json.member k j ms) = j
value_at (suc n) (json.member k j ms) = value_at n ms

abbrev pub at : ℕ → json.Json → json.Json
at n json.null = json.null
at n (json.boolean b) = json.null
at n (json.number s) = json.null
at n (json.string s) = json.null
at n (json.array js) = json.null
at n (json.object ms) = value_at n ms

abbrev pub text_in : json.Json → List ℕ
text_in json.null = []
text_in (json.boolean b) = []
text_in (json.number s) = s
text_in (json.string s) = s
text_in (json.array js) = []
text_in (json.object ms) = []

-- the only item of an array
abbrev pub only : json.Json → json.Json
only j = first_in (items_in j)

-- ---- words

pub level_back : (v w : Level) → word_of v ≡ word_of w → v ≡ w
level_back Warning Warning e = refl
level_back Warning Error e = cc
level_back Error Warning e = cc
level_back Error Error e = refl

pub class_back : (v w : FixClass) → classes.name_of v ≡ classes.name_of w → v ≡ w
class_back Safe Safe e = refl
class_back Safe Unsafe e = cc
class_back Safe Template e = cc
class_back Unsafe Safe e = cc
class_back Unsafe Unsafe e = refl
class_back Unsafe Template e = cc
class_back Template Safe e = cc
class_back Template Unsafe e = cc
class_back Template Template e = refl

-- ---- texts, or null

pub text_back : (t u : Option (List ℕ)) → outline (text_data t) ≡ outline (text_data u) → t ≡ u
text_back None None e = refl
text_back None (Some u) e = cc
text_back (Some t) None e = cc
text_back (Some t) (Some u) e = ap (λ j. Some (text_in j)) e

-- ---- places

abbrev as_place : ℕ → ℕ → Place
as_place line column = record { line = line; column = column }

same_place : (l m c d : ℕ) → l ≡ m → c ≡ d → as_place l c ≡ as_place m d
same_place l m c d a b = ap (λ x. as_place x c) a ∙ ap (λ x. as_place m x) b

-- the place of a byte of each of two texts, by the digits of its numbers
pub place_back : (text other : List ℕ) (x y : ℕ) → length text < 2 ^ 32 → length other < 2 ^ 32 → decimal (location text x).line ≡ decimal (location other y).line
    → decimal (location text x).column ≡ decimal (location other y).column → location text x ≡ location other y
place_back text other x y short shorter line column =
    let a = location text x in
    let b = location other y in
    same_place a.line b.line a.column b.column (decimal_injective a.line b.line (line_short text x short) (line_short other y shorter) line)
    (decimal_injective a.column b.column (column_short text x short) (column_short other y shorter) column)

abbrev as_range : ℕ → ℕ → Range
as_range start end = record { start = start; end = end }

pub same_range : (r s : Range) → r.start ≡ s.start → r.end ≡ s.end → r ≡ s
same_range r s a b = ap (λ x. as_range x r.end) a ∙ ap (λ x. as_range s.start x) b

-- ---- from the fields of JSON to those of the report

abbrev as_edit : Range → Option (List ℕ) → Edit
as_edit range text = record { text_range = range; text = text }

pub same_edit : (a b : Edit) → a.text_range ≡ b.text_range → a.text ≡ b.text → a ≡ b
same_edit a b ranges texts = ap (λ x. as_edit x a.text) ranges ∙ ap (λ x. as_edit b.text_range x) texts

abbrev as_fix : FixClass → List ℕ → List Edit → ReportFix
as_fix class title edits = record { class = class; fix = record { title = title; edits = edits } }

pub same_fix : (f g : ReportFix) → f.class ≡ g.class → f.fix.title ≡ g.fix.title → f.fix.edits ≡ g.fix.edits → f ≡ g
same_fix f g classes titles edits =
    ap (λ x. as_fix x f.fix.title f.fix.edits) classes ∙ ap (λ x. as_fix g.class x f.fix.edits) titles ∙ ap (λ x. as_fix g.class g.fix.title x) edits

-- all fields of two findings are the same
pub record HaveSame (a b : KeptFinding) : Type 0 where
  pub name : a.name ≡ b.name
  pub range : a.range ≡ b.range
  pub first : a.first ≡ b.first
  pub last : a.last ≡ b.last
  pub level : a.level ≡ b.level
  pub rule : a.rule ≡ b.rule
  pub message : a.message ≡ b.message
  pub note : a.note ≡ b.note
  pub help : a.help ≡ b.help
  pub fix : a.fix ≡ b.fix
  pub statement : a.statement ≡ b.statement

-- those after the first four
same_rest : (a b : KeptFinding) → HaveSame a b → record a { name = b.name; range = b.range; first = b.first; last = b.last } ≡ b
same_rest a b s =
    let c = record a { name = b.name; range = b.range; first = b.first; last = b.last } in
    ap (λ x. record c { level = x }) s.level
    ∙ ap (λ x. record c { level = b.level; rule = x }) s.rule
    ∙ ap (λ x. record c { level = b.level; rule = b.rule; message = x }) s.message
    ∙ ap (λ x. record b { note = x; help = a.help; fix = a.fix; statement = a.statement }) s.note
    ∙ ap (λ x. record b { help = x; fix = a.fix; statement = a.statement }) s.help
    ∙ ap (λ x. record b { fix = x; statement = a.statement }) s.fix
    ∙ ap (λ x. record b { statement = x }) s.statement

pub same_finding : (a b : KeptFinding) → HaveSame a b → a ≡ b
same_finding a b s =
    ap (λ x. record a { name = x }) s.name
    ∙ ap (λ x. record a { name = b.name; range = x }) s.range
    ∙ ap (λ x. record a { name = b.name; range = b.range; first = x }) s.first
    ∙ ap (λ x. record a { name = b.name; range = b.range; first = b.first; last = x }) s.last
    ∙ same_rest a b s
