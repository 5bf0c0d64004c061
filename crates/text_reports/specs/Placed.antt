-- Where reports are in a text.
use Rattle.std.specs.Prelude.{ℕ, List, IfSome}
use Rattle.squawk_linter.specs.lint_ignore.Places.{IsPlace}
use Rattle.squawk_linter.specs.lint_pass.Laws.{AreEdits}
use Rattle.fix_class.specs.lint_report.declared.report.Report.{Report}

-- a report, its statement and the edits of its fix are at places of the text
pub record IsReportPlaced (text : List ℕ) (r : Report) : Type 0 where
  pub range : IsPlace text r.text_range
  pub statement : IsPlace text r.statement
  pub edits : IfSome r.fix (λ f. AreEdits text f.fix.edits)
