-- What a run that ends clean says of the work under locks that it prints.
use Rattle.std.specs.Prelude.{◌≡◌, ℕ, List, [], Some, IfSome, is_some, ⊤}
use Rattle.std.specs.declared.option.Option.{Option}
use Rattle.std.specs.Io.KnownBytes.{Appends}
use Rattle.squawk_linter.specs.sql_token.Token.{Text}
use Rattle.squawk_linter.specs.sql_tree.Statement.{Tree}
use Rattle.squawk_linter.specs.sql_read.Cause.{IsTreeOf}
use Rattle.squawk_linter.specs.CleanAnswers.{IsCleanAnswer, WorksAlone}
use Rattle.squawk_cli.specs.declared.config.Config.{Config}
use Rattle.squawk_run.specs.declared.status.Status.{Status}
use Rattle.squawk_run.specs.declared.status.Status.TheVariants.{Clean}
use Rattle.squawk_cli.specs.Answer.{AreFindings}
use Rattle.squawk_cli.specs.Modes.{shown}
use Rattle.squawk_cli.specs.Config.{config_of}
use Rattle.squawk_cli.specs.Findings.{FindingsValue}

-- The words name a configuration, the text has a tree, and what was appended is what is shown of what is found, without reports, with
-- locks exactly where the words ask for them. Where the answer is a clean one, by the rules and by what the locks say of
-- plainness, the printed work is on tables that nobody else knows, and constraints are validated apart.
pub record PrintsWorkAlone (words : List (List ℕ)) (t : Text) (old new : Option (List ℕ)) : Type 0 where
  pub config : Config
  pub named : config_of words ≡ Some config
  pub tree : Tree
  pub of_text : IsTreeOf t tree
  pub found : FindingsValue
  pub are : AreFindings words t found
  pub locks : is_some found.locks ≡ config.locks
  pub appended : Appends old new (shown words found)
  pub no_reports : found.violations ≡ []
  pub alone :
      IfSome found.locks (λ locks.
      IsCleanAnswer tree config.linter.rules found.violations locks.plain → WorksAlone tree config.linter.settings locks.works)

-- a run that ends clean prints such work
abbrev pub CleanFor : Status → List (List ℕ) → Text → Option (List ℕ) → Option (List ℕ) → Type 0
CleanFor Clean words t old new = PrintsWorkAlone words t old new
CleanFor _ words t old new = ⊤
