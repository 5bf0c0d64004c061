-- What linting a text answers, and what it leaves.
use Rattle.std.specs.Prelude.{◌≡◌, ◌⊎◌, List, Result, Ok, Err}
use Rattle.sql_read.specs.sql_token.Token.{Text}
use Rattle.sql_read.specs.sql_tree.Statement.{Tree}
use Rattle.sql_read.specs.declared.error.LintError.{LintError}
use Rattle.sql_read.specs.declared.error.LintError.TheVariants.{TooLong, Unterminated, Syntax, NoMemory}
use Rattle.sql_read.specs.Cause.{IsTreeOf}
use Rattle.fix_edit.specs.lint_base.declared.settings.LinterSettings.{LinterSettings}
use Rattle.fix_edit.specs.lint_base.declared.violation.Violation.{Violation}
use Rattle.fix_edit.specs.lint_base.RuleSets.{Rules}
use Rattle.law_answers.specs.pass_groups.OwnTable.{own_table}
use Rattle.squawk_linter.specs.Reports.{cleared, reports_from}

-- The answer of a linter for a tree: that of its own passes, under its rules and settings, the flag cleared.
abbrev pub reports : Tree → Rules → LinterSettings → List Violation
reports tree rules settings = reports_from tree (own_table tree rules (cleared tree settings)) rules

-- this is the answer for a text, which has one tree
pub record IsAnswer (t : Text) (rules : Rules) (settings : LinterSettings) (v : List Violation) : Type 0 where
  pub tree : Tree
  pub of_text : IsTreeOf t tree
  pub reports_of : v ≡ reports tree rules settings

-- the settings, the flag cleared for the text
abbrev pub ClearedFor : Text → LinterSettings → LinterSettings → Type 0
ClearedFor t old new = (tree : Tree) → IsTreeOf t tree → new ≡ cleared tree old

-- the text has a tree, and the settings are as an answer for it leaves them
pub record IsClearedBy (t : Text) (old new : LinterSettings) : Type 0 where
  pub tree : Tree
  pub of_text : IsTreeOf t tree
  pub cleared : new ≡ cleared tree old

-- What an answer leaves of the settings: after an answer they are cleared; where memory ran out they are as before, or the
-- text has a tree and they are cleared; after each other refusal they are as before.
abbrev pub SettingsAfter : {X : Type 0} → Text → LinterSettings → LinterSettings → Result X LintError → Type 0
SettingsAfter t old new (Ok v) = ClearedFor t old new
SettingsAfter t old new (Err NoMemory) = (new ≡ old) ⊎ IsClearedBy t old new
SettingsAfter t old new (Err TooLong) = new ≡ old
SettingsAfter t old new (Err (Unterminated at)) = new ≡ old
SettingsAfter t old new (Err (Syntax at)) = new ≡ old
