-- What comes of the bytes of a file.
use Rattle.std.specs.Prelude.{◌≡◌, ◌⊎◌, ℕ, Bool, List, None}
use Rattle.std.specs.Str.{IsUtf8}
use Rattle.std.specs.Str.Lossy.{utf8_valid_len}
use Rattle.check_run.specs.checked_file.declared.answer.Answer.{Answer}
use Rattle.check_run.specs.checked_file.declared.answer.Answer.TheVariants.{Reports, Partial, Refused}
use Rattle.check_run.specs.checked_file.declared.checked.Linted.{Linted}
use Rattle.law_reports.specs.lint_report.declared.report.Report.{Report}
use Rattle.check_run.specs.source_file.declared.refusal.Refusal.{Refusal}
use Rattle.check_run.specs.source_file.declared.refusal.Refusal.TheVariants as refusal
use Rattle.law_reports.specs.sql_token.Token.{Text, OpenAt}
use Rattle.law_reports.specs.sql_read.Cause.{IsTreeOf}
use Rattle.law_reports.specs.sql_tree.Statement.{Tree}
use Rattle.law_reports.specs.text_reports.declared.find.TextLinter.{TextLinter}
use Rattle.law_reports.specs.text_reports.Reports.{all_reports}
use Rattle.file_answer.specs.Backslash.{first_backslash}
use Rattle.file_answer.specs.Faults.{AreFaultsOf, IsFault}
use Rattle.file_answer.specs.Reading.{IsReadBy}

-- all that is reported of a text, which has one tree, and no command of psql that was not read
pub record AreReportsOf (l : TextLinter) (t : Text) (reports : List Report) : Type 0 where
  pub tree : Tree
  pub of_text : IsTreeOf t tree
  pub none : first_backslash tree ≡ None
  pub are : reports ≡ all_reports tree l.linter.rules l.hazards l.linter.settings

-- Some statements of a text can't be read: it can't be read as a whole, these are the faults of its statements, u is the text in which those
-- that have one are blank, and this is reported of u.
pub record IsPartOf (l : TextLinter) (t u : Text) (faults : List Refusal) (reports : List Report) : Type 0 where
  pub utf8 : IsUtf8 t
  pub unread : (at : ℕ) × IsFault t (refusal.Syntax at)
  pub blank : AreFaultsOf t faults u
  pub are : AreReportsOf l u reports

-- Also with the statements blank that have a fault, a text can't be read.
pub record StaysUnread (t : Text) : Type 0 where
  pub faults : List Refusal
  pub text : Text
  pub blank : AreFaultsOf t faults text
  pub fault : Refusal
  pub unread : IsFault text fault

-- this comes of these bytes, which are those that were linted: what is reported, or why nothing can be
abbrev pub IsAnswerOf : TextLinter → Text → Answer → Type 0
IsAnswerOf l t (Reports reports) = IsUtf8 t × AreReportsOf l t reports.items
IsAnswerOf l t (Partial p) = IsPartOf l p.bytes.items t p.faults.items p.reports.items
IsAnswerOf l t (Refused refusal.Missing) = ⊥
IsAnswerOf l t (Refused refusal.Unreadable) = ⊥
IsAnswerOf l t (Refused (refusal.NotUtf8 at)) = (¬ (IsUtf8 t)) × (at ≡ utf8_valid_len t)
IsAnswerOf l t (Refused refusal.TooLong) = ⊥
IsAnswerOf l t (Refused (refusal.Unterminated at)) = IsUtf8 t × OpenAt t at
IsAnswerOf l t (Refused (refusal.Syntax at)) = IsUtf8 t × IsFault t (refusal.Syntax at) × StaysUnread t

-- the bytes as they were read: those that were linted, but where some statements could not be parsed
abbrev pub as_read : Text → Answer → Text
as_read t (Reports reports) = t
as_read t (Partial p) = p.bytes.items
as_read t (Refused r) = t

-- this comes of the bytes of a file: what is read of them, and what comes of that
pub record IsLintedAs (is_strict : Bool) (l : TextLinter) (t : Text) (j : Linted) : Type 0 where
  pub read : IsReadBy is_strict t (as_read j.bytes.items j.answer) j.passed
  pub answer : IsAnswerOf l j.bytes.items j.answer
