-- How an answer is made.
use Rattle.std.specs.Prelude.{◌<◌, ◌^◌, All, length, string_bytes}
use Rattle.std.specs.Str.{IsCharBoundary}
use Rattle.check_run.specs.checked_file.declared.answer.Answer.TheVariants as answer
use Rattle.check_run.specs.checked_file.Sound.{IsReportIn}
use Rattle.check_run.specs.source_file.Refusals.{place_of}
use Rattle.law_reports.specs.sql_token.Token.{Text}
use Rattle.law_reports.specs.text_reports.declared.find.TextLinter.{TextLinter}
use Rattle.file_answer.specs.Faults.{IsFault}
use Rattle.file_answer.specs.Answers.{AreReportsOf, IsAnswerOf, IsPartOf}
use Rattle.file_answer.specs.declared.text.Outcome.{Outcome}
use Rattle.file_answer.specs.declared.text.Outcome.TheVariants as outcome
use Rattle.file_answer.specs.declared.text.Found.{Found}
use Rattle.file_answer.specs.declared.text.Rest.{Rest}
use Rattle.file_answer.specs.declared.text.Found.TheVariants as found

-- ---- a text as a whole

abbrev pub IsOutcomeOf : TextLinter → Text → Outcome → Type 0
IsOutcomeOf l t (outcome.Reports reports) = AreReportsOf l t reports.items
IsOutcomeOf l t (outcome.Refused r) = IsFault t r

abbrev pub IsOutcomeIn : Text → Outcome → Type 0
IsOutcomeIn t (outcome.Reports reports) = All (IsReportIn t) reports.items
IsOutcomeIn t (outcome.Refused r) = IsCharBoundary t (place_of r)

-- ---- a text, or the rest of it

abbrev pub IsFound : TextLinter → Text → Found → Type 0
IsFound l t (found.Reports reports) = IsAnswerOf l t (answer.Reports reports)
IsFound l t (found.Refused r) = IsAnswerOf l t (answer.Refused r)
IsFound l t (found.Rest rest) = IsPartOf l t (string_bytes rest.text) rest.faults.items rest.reports.items

-- the text that was linted is short, the faults are in the text as it was read, and the reports are in the one that was linted
pub record IsRestIn (t : Text) (rest : Rest) : Type 0 where
  pub short : length (string_bytes rest.text) < 2 ^ 32
  pub faults : All (λ r. IsCharBoundary t (place_of r)) rest.faults.items
  pub reports : All (IsReportIn (string_bytes rest.text)) rest.reports.items

abbrev pub IsFoundIn : Text → Found → Type 0
IsFoundIn t (found.Reports reports) = All (IsReportIn t) reports.items
IsFoundIn t (found.Refused r) = IsCharBoundary t (place_of r)
IsFoundIn t (found.Rest rest) = IsRestIn t rest
