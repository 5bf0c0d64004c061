-- What is printed of findings in their texts has short numbers.
use Rattle.std.proofs.Common.{ℕ, ◌<◌, ◌^◌, Bool, true, false, List, [], ◌∷◌, arith, length, map, Option, Some, None, if◌then◌else◌}
use Rattle.std.proofs.lemmas.List.Elements.{All-head, All-tail}
use Rattle.std.specs.Option.{IfSome}
use Rattle.law_printed_lines.specs.check_print.Found.{Found}
use Rattle.law_printed_lines.specs.checked_file.Sound.{AreEditsIn}
use Rattle.law_printed_lines.specs.json_value.Values.{text_data}
use Rattle.law_printed_lines.specs.lint_base.declared.edit.Edit.{Edit}
use Rattle.law_printed_lines.specs.lint_report.declared.report.ReportFix.{ReportFix}
use Rattle.law_printed_lines.specs.report_json.Objects as json
use Rattle.law_printed_lines.specs.report_sarif.Places.{region}
use Rattle.law_printed_lines.specs.report_sarif.Results as sarif
use Rattle.serde_json.specs.Data.{Data, array, no_items}
use Rattle.serde_json.specs.View.{items_of}
use Rattle.law_printed_lines.specs.source_file.File.{FileValue, IsRangeIn}
use Rattle.law_printed_lines.specs.text_pos.Range.{Range}
use Rattle.law_printed_arrays.proofs.Placed.{IsPlaced}
use Rattle.law_printed_arrays.proofs.Places.{at_short}
use Rattle.law_printed_lines.proofs.Places.{column_short, line_short}
use Rattle.law_printed_arrays.proofs.Short.{AreShortItems, AreShortMembers, IsShort}
use Rattle.law_printed_arrays.proofs.Values.{issue_of, object_of, range_data, region_data, result_of}

text_short : (text : Option (List ℕ)) → IsShort (text_data text)
text_short None = tt
text_short (Some text) = tt

-- ---- JSON

edits_short : (text : List ℕ) (edits : List Edit) → length text < 2 ^ 32 → AreEditsIn text edits → AreShortItems (items_of (map json.edit_object edits))
edits_short text [] short h = tt
edits_short text (e ∷ es) short h =
    let P : Edit → Type 0 = λ e. IsRangeIn text e.text_range in
    let here = All-head P e es h in
    ((at_short text e.text_range.end short here.end, (at_short text e.text_range.start short here.start, (text_short e.text, tt))), edits_short text es short (All-tail P e es h))

fix_short : (text : List ℕ) (fix : Option ReportFix) → length text < 2 ^ 32 → IfSome fix (λ f. AreEditsIn text f.fix.edits) → IsShort (json.fix_data fix)
fix_short text None short h = tt
fix_short text (Some f) short h = (tt, (edits_short text f.fix.edits short h, (tt, tt)))

statement_short : (text : List ℕ) (range : Option Range) → length text < 2 ^ 32 → IfSome range (IsRangeIn text) → IsShort (range_data range)
statement_short text None short h = tt
statement_short text (Some range) short h = (at_short text range.end short h.end, (at_short text range.start short h.start, tt))

pub object_short : (f : Found) → IsPlaced f → IsShort (object_of f)
object_short f p =
    let text = f.file.text in
    let start = f.range.start in
    let end = f.range.end in
    let fix = fix_short text f.fix p.short p.edits in
    let help = text_short f.help in
    let note = text_short f.note in
    let statement = statement_short text f.statement p.short p.statement in (
      column_short text start p.short,
      (
        column_short text end p.short,
        (
          tt,
          (
            fix,
            (
              help,
              (
                tt,
                (
                  line_short text start p.short,
                  (
                    line_short text end p.short,
                    (
                      tt,
                      (
                        note,
                        (
                          (at_short text end p.short p.range.end, (at_short text start p.short p.range.start, tt)),
                          (tt, (statement, tt)),
                        ),
                      ),
                    ),
                  ),
                ),
              ),
            ),
          ),
        ),
      ),
    )

-- ---- SARIF

region_short : (text : List ℕ) (range : Range) → length text < 2 ^ 32 → IsRangeIn text range → IsShort (region text range)
region_short text range short h = (
  omega (arith, at_short text range.end short h.end),
  (
    at_short text range.start short h.start,
    (
      column_short text range.end short,
      (line_short text range.end short, (column_short text range.start short, (line_short text range.start short, tt))),
    ),
  ),
)

inserted_short : (text : Option (List ℕ)) → AreShortMembers (sarif.inserted text)
inserted_short None = tt
inserted_short (Some text) = ((tt, tt), tt)

replacements_short : (text : List ℕ) (edits : List Edit) → length text < 2 ^ 32 → AreEditsIn text edits → AreShortItems (items_of (map (sarif.replacement text) edits))
replacements_short text [] short h = tt
replacements_short text (e ∷ es) short h =
    let P : Edit → Type 0 = λ e. IsRangeIn text e.text_range in
    ((region_short text e.text_range short (All-head P e es h), inserted_short e.text), replacements_short text es short (All-tail P e es h))

fix_object_short : (file : FileValue) (f : ReportFix) → length file.text < 2 ^ 32 → AreEditsIn file.text f.fix.edits → IsShort (sarif.one (sarif.fix_object file f))
fix_object_short file f short h = (((((tt, tt), (replacements_short file.text f.fix.edits short h, tt)), tt), ((tt, tt), ((tt, tt), tt))), tt)

either_short : (b : Bool) (d : Data) → IsShort d → IsShort (if b then d else array no_items)
either_short true d h = h
either_short false d h = tt

fixes_short : (file : FileValue) (fix : Option ReportFix) → length file.text < 2 ^ 32 → IfSome fix (λ f. AreEditsIn file.text f.fix.edits) → IsShort (sarif.fixes file fix)
fixes_short file None short h = tt
fixes_short file (Some f) short h = either_short (sarif.are_in_text file.text f.fix.edits) (sarif.one (sarif.fix_object file f)) (fix_object_short file f short h)

place_short : (text : List ℕ) (range : Option Range) → length text < 2 ^ 32 → IfSome range (IsRangeIn text) → IsShort (region_data text range)
place_short text None short h = tt
place_short text (Some range) short h = region_short text range short h

pub result_short : (f : Found) → IsPlaced f → IsShort (result_of f)
result_short f p = (
  fixes_short f.file f.fix p.short p.edits,
  (
    tt,
    (
      ((((tt, tt), (region_short f.file.text f.range p.short p.range, tt)), tt), tt),
      ((tt, tt), ((text_short f.help, (text_short f.note, (place_short f.file.text f.statement p.short p.statement, tt))), (tt, tt))),
    ),
  ),
)

-- ---- GitLab

pub issue_short : (f : Found) → IsPlaced f → IsShort (issue_of f)
issue_short f p = (tt, (tt, (tt, (((line_short f.file.text f.range.start p.short, tt), (tt, tt)), (tt, tt)))))
