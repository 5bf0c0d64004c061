-- Reports that are at places of a text, with the edits of their fixes.
use Rattle.std.specs.Prelude.{ℕ, List, All, IfSome}
use Rattle.lsp_session.specs.lint_base.declared.edit.Edit.{Edit}
use Rattle.lsp_session.specs.lint_base.Fixes.{FixValue}
use Rattle.lsp_session.specs.lint_report.declared.report.Report.{Report}
use Rattle.lsp_session.specs.lint_report.declared.report.ReportFix.{ReportFix}
use Rattle.source_file.specs.File.{IsRangeIn}

-- an edit is at a place of the text
abbrev pub EditIn : List ℕ → Edit → Type 0
EditIn text e = IsRangeIn text e.text_range

-- each edit is
abbrev pub EditsIn : List ℕ → FixValue → Type 0
EditsIn text f = All (EditIn text) f.edits

-- each edit is, whatever the class
abbrev pub FixIn : List ℕ → ReportFix → Type 0
FixIn text f = EditsIn text f.fix

-- a report is at a place of the text, and so is each edit of its fix
pub record ReportIn (text : List ℕ) (r : Report) : Type 0 where
  pub range : IsRangeIn text r.text_range
  pub fix : IfSome r.fix (FixIn text)
