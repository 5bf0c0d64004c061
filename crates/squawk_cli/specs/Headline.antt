-- What a run prints of index builds and of added constraints.
use Rattle.std.specs.Prelude.{◌≡◌, ◌≢◌, ℕ, List, [], Some, is_some, ⊤}
use Rattle.std.specs.declared.option.Option.{Option}
use Rattle.std.specs.Io.KnownBytes.{Appends}
use Rattle.squawk_linter.specs.sql_token.Token.{Text}
use Rattle.squawk_linter.specs.sql_tree.Statement.{Tree}
use Rattle.squawk_linter.specs.sql_read.Cause.{IsTreeOf}
use Rattle.squawk_linter.specs.lint_base.declared.violation.Violation.{Violation}
use Rattle.squawk_linter.specs.Headline.{HasNoIgnoreComment, headline_of, headline_reports}
use Rattle.squawk_linter.specs.Reports.{cleared}
use Rattle.squawk_cli.specs.declared.config.Config.{Config}
use Rattle.squawk_run.specs.declared.status.Status.{Status}
use Rattle.squawk_run.specs.declared.status.Status.TheVariants.{Clean, Found}
use Rattle.squawk_cli.specs.Answer.{AreFindings}
use Rattle.squawk_cli.specs.Modes.{shown}
use Rattle.squawk_cli.specs.Config.{config_of}
use Rattle.squawk_cli.specs.Findings.{FindingsValue}

-- a run is clean exactly where nothing is reported
abbrev pub CountFor : Status → List Violation → Type 0
CountFor Clean violations = violations ≡ []
CountFor Found violations = violations ≢ []
CountFor _ violations = ⊤

-- The words name a configuration, the text has a tree, and what was appended is what is shown of what is found, with locks
-- exactly where the words ask for them. Where the tree has no ignore comment, the index builds and the added constraints
-- among the reports are exactly those of its statements.
pub record PrintsHeadline (status : Status) (words : List (List ℕ)) (t : Text) (old new : Option (List ℕ)) : Type 0 where
  pub config : Config
  pub named : config_of words ≡ Some config
  pub tree : Tree
  pub of_text : IsTreeOf t tree
  pub found : FindingsValue
  pub are : AreFindings words t found
  pub locks : is_some found.locks ≡ config.locks
  pub appended : Appends old new (shown words found)
  pub count : CountFor status found.violations
  pub headline :
      HasNoIgnoreComment tree
      → headline_of tree found.violations
      ≡ headline_reports tree config.linter.rules (cleared tree config.linter.settings).assume_in_transaction

-- a run that linted its text prints the headline
abbrev pub HeadlineFor : Status → List (List ℕ) → Text → Option (List ℕ) → Option (List ℕ) → Type 0
HeadlineFor Clean words t old new = PrintsHeadline Clean words t old new
HeadlineFor Found words t old new = PrintsHeadline Found words t old new
HeadlineFor _ words t old new = ⊤
