-- What an editor shows of reports, and of a text that is refused.
use Rattle.std.specs.Prelude.{ℕ, Bool, true, false, List, Option, Some, None, map}
use Rattle.lsp_session.specs.lint_base.declared.edit.Edit.{Edit}
use Rattle.lsp_session.specs.lint_base.Fixes.{FixValue}
use Rattle.lsp_session.specs.lint_report.declared.fix_class.FixClass.{FixClass}
use Rattle.lsp_session.specs.lint_report.declared.fix_class.FixClass.TheVariants.{Safe, Unsafe, Template}
use Rattle.lsp_session.specs.lint_report.declared.report.Report as found
use Rattle.lsp_session.specs.lint_report.declared.report.ReportFix.{ReportFix}
use Rattle.lsp_session.specs.declared.report.Change.{Change}
use Rattle.lsp_session.specs.declared.report.Report.{Report}
use Rattle.lsp_session.specs.Remedy.{RemedyValue}
use Rattle.lsp_shown.specs.declared.ignore.Lines.{Lines}
use Rattle.lsp_shown.specs.Ignore.{ignore_if}
use Rattle.lsp_session.specs.text_utf16.Position.{position_of}
use Rattle.lsp_session.specs.text_utf16.declared.position.Pos.{Pos}

-- an edit at positions
abbrev pub change_of : List ℕ → Edit → Change
change_of text e = record { start = position_of text e.text_range.start; end = position_of text e.text_range.end; text = e.text }

-- a fix at positions, and whether it may be made unseen
abbrev pub remedy_of : List ℕ → Bool → FixValue → RemedyValue
remedy_of text is_preferred f = record { title = f.title; is_preferred = is_preferred; changes = map (change_of text) f.edits }

-- A fix may be made unseen exactly where it is safe. One that has a part to be filled in is not offered: made as it is, it breaks the text.
abbrev pub remedy_by : List ℕ → FixClass → FixValue → Option RemedyValue
remedy_by text Safe f = Some (remedy_of text true f)
remedy_by text Unsafe f = Some (remedy_of text false f)
remedy_by text Template f = None

-- the fix of a report, if it has one
abbrev pub remedy_if : List ℕ → Option ReportFix → Option RemedyValue
remedy_if text None = None
remedy_if text (Some f) = remedy_by text f.class f.fix

-- a report at positions, with its fix and the comment that tells the linter to leave it
abbrev pub report_of : List ℕ → List Lines → List Pos → found.Report → Report
report_of text tokens notes r = record {
  start = position_of text r.text_range.start;
  end = position_of text r.text_range.end;
  code = Some r.code;
  message = r.message;
  note = r.note;
  help = r.help;
  fix = remedy_if text r.fix;
  ignore = ignore_if tokens notes r.code (position_of text r.text_range.start).line;
}

-- the reports of a text, in their order
abbrev pub shown : List ℕ → List Lines → List Pos → List found.Report → List Report
shown text tokens notes reports = map (report_of text tokens notes) reports

-- the one report of a text that is refused, at the place of the fault
abbrev pub refused_at : List ℕ → Pos → Report
refused_at message at = record { start = at; end = at; code = None; message = message; note = None; help = None; fix = None; ignore = None }
