-- What a walk over the files knows.
use Rattle.std.specs.Prelude.{◌≡◌, ℕ, List, ◌++◌, Option, Some, None}
use Rattle.squawk_linter.specs.sql_token.Token.{Text}
use Rattle.squawk_linter.specs.sql_tree.Statement.{Tree}
use Rattle.squawk_linter.specs.lint_base.declared.settings.LinterSettings.{LinterSettings}
use Rattle.squawk_linter.specs.lint_base.RuleSets.{Rules}
use Rattle.squawk_linter.specs.lock_machine.Works.{works}
use Rattle.migration_gate.specs.declared.verdict.GateWork.{GateWork}
use Rattle.migration_gate.specs.declared.verdict.Why.{Why}
use Rattle.migration_gate.specs.Passing.{IsPassing, IsWhy, why_in}
use Rattle.migration_gate.specs.Run.{by_file, in_file, settings_for}
use Rattle.migration_gate.specs.Verdicts.{ArePassing}

-- the settings are as before, but maybe for the flag
abbrev pub SameButFlag : LinterSettings → LinterSettings → Type 0
SameButFlag old new = record new { assume_in_transaction = old.assume_in_transaction } ≡ old

-- the works of a file were added
abbrev pub HasWorks : LinterSettings → Tree → ℕ → List GateWork → List GateWork → Type 0
HasWorks settings tree file old new = new ≡ old ++ in_file file (works tree (settings_for settings tree))

-- The tree passes, and its works were added; or this is why it does not.
abbrev pub IsJudged : Rules → LinterSettings → Tree → ℕ → List GateWork → List GateWork → Option Why → Type 0
IsJudged rules settings tree file old new None = (why_in rules settings tree ≡ None) × HasWorks settings tree file old new
IsJudged rules settings tree file old new (Some w) = why_in rules settings tree ≡ Some w

-- the text passes, and its works were added
pub record IsAdded (rules : Rules) (settings : LinterSettings) (text : Text) (file : ℕ) (old new : List GateWork) : Type 0 where
  pub tree : Tree
  pub passing : IsPassing rules settings text tree
  pub added : HasWorks settings tree file old new

-- the same of a text
abbrev pub IsToldOf : Rules → LinterSettings → Text → ℕ → List GateWork → List GateWork → Option Why → Type 0
IsToldOf rules settings text file old new None = IsAdded rules settings text file old new
IsToldOf rules settings text file old new (Some w) = IsWhy rules settings text w

-- these texts pass, and these are their works
pub record IsSoFar (rules : Rules) (settings : LinterSettings) (ts : List Text) (works : List GateWork) : Type 0 where
  pub trees : List Tree
  pub passing : ArePassing rules settings ts trees
  pub told : works ≡ by_file settings 0 trees
