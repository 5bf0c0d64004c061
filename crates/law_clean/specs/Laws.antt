-- What a clean answer means.
use Rattle.std.specs.Prelude.{◌≡◌, true, All}
use Rattle.lock_machine.specs.sql_tree.Statement.{Tree, IsTree}
use Rattle.lock_machine.specs.lint_base.declared.settings.LinterSettings.{LinterSettings}
use Rattle.lock_machine.specs.lint_base.RuleSets.{Rules, default_rules}
use Rattle.lock_machine.specs.lint_pass.Cleared.{IsCleared}
use Rattle.lock_machine.specs.Plain.{plain}
use Rattle.lock_machine.specs.Works.{works}
use Rattle.law_clean.specs.Clean.{HasDefaults, IsClean, IsYoung}
use Rattle.law_clean.specs.Validations.{ValidatesApart}

-- The default set has the rules that these laws ask for.
abbrev pub DefaultRulesSuffice : Type 0
DefaultRulesSuffice = HasDefaults default_rules

-- All work of a plain text of which nothing is reported, under cleared settings, is on tables that were created in the same
-- transaction.
abbrev pub CleanAnswersHaveNoOldWork : Type 0
CleanAnswersHaveNoOldWork =
    (tree : Tree) (rules : Rules) (settings : LinterSettings) → IsTree tree → IsCleared tree settings → IsClean tree rules settings
    → plain tree ≡ true → All IsYoung (works tree settings)

-- A text of which nothing is reported validates each constraint in another transaction than the one that added it.
abbrev pub CleanAnswersValidateApart : Type 0
CleanAnswersValidateApart =
    (tree : Tree) (rules : Rules) (settings : LinterSettings) → IsClean tree rules settings
    → ValidatesApart settings.assume_in_transaction tree
