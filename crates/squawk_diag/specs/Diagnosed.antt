-- The diagnostics of a text.
use Rattle.std.specs.Prelude.{◌≡◌, All, List}
use Rattle.squawk_linter.specs.sql_token.Token.{Text}
use Rattle.squawk_linter.specs.lint_base.declared.settings.LinterSettings.{LinterSettings}
use Rattle.squawk_linter.specs.lint_base.declared.violation.Violation.{Violation}
use Rattle.squawk_linter.specs.lint_base.RuleSets.{Rules}
use Rattle.squawk_linter.specs.Answers.{IsAnswer}
use Rattle.diag_report.specs.diag_json.declared.diagnostic.Diagnostic.{Diagnostic}
use Rattle.diag_report.specs.Diagnostics.{diagnostics_of}
use Rattle.diag_report.specs.Places.{ReportIn}

-- These are the reports of the linter's answer, each range put as two positions. The ranges begin and end between two characters.
pub record AreDiagnostics (t : Text) (rules : Rules) (settings : LinterSettings) (diagnostics : List Diagnostic) : Type 0 where
  pub reports : List Violation
  pub answer : IsAnswer t rules settings reports
  pub placed : All (ReportIn t) reports
  pub are : diagnostics ≡ diagnostics_of t reports
