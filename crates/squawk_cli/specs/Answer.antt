-- What a run reports and finds: what the linter answers that its words name.
use Rattle.std.specs.Prelude.{◌≡◌, ℕ, List, Some}
use Rattle.squawk_linter.specs.sql_token.Token.{Text}
use Rattle.squawk_linter.specs.lint_base.declared.violation.Violation.{Violation}
use Rattle.squawk_linter.specs.Answers.{IsAnswer}
use Rattle.squawk_cli.specs.declared.config.Config.{Config}
use Rattle.squawk_cli.specs.Config.{config_of}
use Rattle.squawk_cli.specs.Findings.{AreFoundIn, FindingsValue}

-- These are the reports of a run on the text with these words.
pub record AreReports (words : List (List ℕ)) (t : Text) (violations : List Violation) : Type 0 where
  pub config : Config
  pub named : config_of words ≡ Some config
  pub answer : IsAnswer t config.linter.rules config.linter.settings violations

-- This is what a run finds in the text with these words: its reports, and with `--locks` the work under locks and whether the
-- text is plain.
pub record AreFindings (words : List (List ℕ)) (t : Text) (found : FindingsValue) : Type 0 where
  pub config : Config
  pub named : config_of words ≡ Some config
  pub answer : AreFoundIn config.locks t config.linter.rules config.linter.settings found
