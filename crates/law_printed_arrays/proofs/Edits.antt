-- Edits between the characters of a text are printed.
use Rattle.std.proofs.Common.{◌≡◌, ◌∙◌, ℕ, true, ◌&&◌, List, [], ◌∷◌, Option, Some, None, ap, arith, if◌then◌else◌, refl}
use Rattle.std.proofs.lemmas.List.{get_or_past}
use Rattle.std.proofs.lemmas.List.Elements.{All-head, All-tail}
use Rattle.std.specs.Option.{IfSome}
use Rattle.std.specs.Str.{IsCharBoundary}
use Rattle.law_printed_lines.specs.checked_file.Sound.{AreEditsIn}
use Rattle.law_printed_lines.specs.lint_base.declared.edit.Edit.{Edit}
use Rattle.law_printed_lines.specs.lint_report.declared.report.ReportFix.{ReportFix}
use Rattle.law_printed_lines.specs.report_sarif.Places.{is_boundary, is_range_in}
use Rattle.law_printed_lines.specs.report_sarif.Results.{are_in_text, fix_object, fixes, one}
use Rattle.serde_json.specs.Data.{Data, array, no_items}
use Rattle.law_printed_lines.specs.source_file.File.{FileValue, IsRangeIn}
use Rattle.law_printed_lines.specs.text_pos.Range.{Range}

boundary_is : (text : List ℕ) (at : ℕ) → IsCharBoundary text at → is_boundary text at ≡ true
unfolding is_boundary
boundary_is text at h = grind (arith, get_or_past text at 0)

range_is : (text : List ℕ) (range : Range) → IsRangeIn text range → is_range_in text range ≡ true
unfolding is_range_in
range_is text range h = rw (boundary_is text range.start h.start, boundary_is text range.end h.end) refl

all_in : (text : List ℕ) (edits : List Edit) → AreEditsIn text edits → are_in_text text edits ≡ true
all_in text [] h = refl
all_in text (e ∷ es) h =
    let P : Edit → Type 0 = λ e. IsRangeIn text e.text_range in
    ap (λ b. b && are_in_text text es) (range_is text e.text_range (All-head P e es h)) ∙ all_in text es (All-tail P e es h)

-- a fix, wherever its edits are
abbrev pub plain_fixes : FileValue → Option ReportFix → Data
plain_fixes file None = array no_items
plain_fixes file (Some fix) = one (fix_object file fix)

pub fixes_are : (file : FileValue) (fix : Option ReportFix) → IfSome fix (λ x. AreEditsIn file.text x.fix.edits) → fixes file fix ≡ plain_fixes file fix
fixes_are file None h = refl
fixes_are file (Some fix) h = ap (λ b. if b then one (fix_object file fix) else array no_items) (all_in file.text fix.fix.edits h)
