-- Which findings are in a text.
use Rattle.std.specs.Prelude.{ℕ, ◌<◌, ◌^◌, All, IfSome, List, length}
use Rattle.std.specs.Str.{IsCharBoundary, IsUtf8}
use Rattle.lint_report.specs.lint_base.declared.edit.Edit.{Edit}
use Rattle.lint_report.specs.declared.report.Report.{Report}
use Rattle.source_file.specs.File.{IsRangeIn}
use Rattle.source_file.specs.Refusals.{place_of}
use Rattle.checked_file.specs.declared.answer.Answer.{Answer}
use Rattle.checked_file.specs.declared.answer.Answer.TheVariants.{Reports, Refused}
use Rattle.checked_file.specs.declared.answer.Answer.TheVariants as answer
use Rattle.checked_file.specs.declared.answer.Partial.{Partial}
use Rattle.checked_file.specs.declared.checked.Checked.{Checked}
use Rattle.checked_file.specs.declared.checked.Linted.{Linted}
use Rattle.checked_file.specs.Files.{readable_of}

-- edits begin and end between characters of a text
abbrev pub AreEditsIn : List ℕ → List Edit → Type 0
AreEditsIn text edits = All (λ e. IsRangeIn text e.text_range) edits

-- a report begins and ends between characters of a text, and so do its statement and the edits of its fix
pub record IsReportIn (text : List ℕ) (report : Report) : Type 0 where
  pub range : IsRangeIn text report.text_range
  pub statement : IsRangeIn text report.statement
  pub edits : IfSome report.fix (λ f. AreEditsIn text f.fix.edits)

-- what could not be parsed is in the text as it was read, which is short, and what is reported is in the text that was linted
pub record IsPartialIn (text : List ℕ) (p : Partial) : Type 0 where
  pub short : length (readable_of p.bytes.items) < 2 ^ 32
  pub faults : All (λ r. IsCharBoundary (readable_of p.bytes.items) (place_of r)) p.faults.items
  pub reports : All (IsReportIn text) p.reports.items

-- its findings are in a text
abbrev pub IsIn : List ℕ → Answer → Type 0
IsIn text (Reports reports) = All (IsReportIn text) reports.items
IsIn text (answer.Partial p) = IsPartialIn text p
IsIn text (Refused r) = IsCharBoundary text (place_of r)

-- the text that can be read is short, and the findings are in it
pub record IsSoundAnswer (j : Linted) : Type 0 where
  pub short : length (readable_of j.bytes.items) < 2 ^ 32
  pub placed : IsIn (readable_of j.bytes.items) j.answer

-- the name is UTF-8, the text that can be read is short, and the findings are in it
pub record IsSound (file : Checked) : Type 0 where
  pub named : IsUtf8 file.name
  pub short : length (readable_of file.bytes.items) < 2 ^ 32
  pub placed : IsIn (readable_of file.bytes.items) file.answer
