-- Reports at places of a text are in the text.
use Rattle.std.proofs.Common.{ℕ, List, Option, None, Some, IfSome, All}
use Rattle.std.proofs.lemmas.List.Elements.{All-weaker}
use Rattle.squawk_linter.specs.lint_base.declared.edit.Edit.{Edit}
use Rattle.squawk_linter.specs.lint_base.declared.violation.Violation.{Violation}
use Rattle.squawk_linter.specs.lint_base.Fixes.{FixValue}
use Rattle.squawk_linter.specs.lint_ignore.Places.{IsPlace}
use Rattle.squawk_linter.specs.lint_pass.Laws.{AreEdits}
use Rattle.squawk_linter.specs.text_pos.Range.{Range}
use Rattle.squawk_linter.specs.Placed.{IsPlaced}
use Rattle.diag_report.specs.Places.{EditIn, EditsIn, RangeIn, ReportIn}

range_in : (t : List ℕ) (range : Range) → IsPlace t range → RangeIn t range
range_in t range place = record { start = place.start; end = place.end }

fix_in : (t : List ℕ) (fix : Option FixValue) → IfSome fix (λ f. AreEdits t f.edits) → IfSome fix (EditsIn t)
fix_in t None h = tt
fix_in t (Some f) h = All-weaker (λ (e : Edit). IsPlace t e.text_range) (EditIn t) (λ e place. range_in t e.text_range place) f.edits h.places

report_in : (t : List ℕ) (v : Violation) → IsPlaced t v → ReportIn t v
report_in t v placed = record { range = range_in t v.text_range placed.range; fix = fix_in t v.fix placed.edits }

pub reports_in : (t : List ℕ) (reports : List Violation) → All (IsPlaced t) reports → All (ReportIn t) reports
reports_in t reports placed = All-weaker (IsPlaced t) (ReportIn t) (report_in t) reports placed
