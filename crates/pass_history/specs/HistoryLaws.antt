-- What is reported of a text, by its history.
use Rattle.std.specs.Prelude.{◌≡◌, true, [], length}
use Rattle.sql_tree.specs.Statement.{Tree}
use Rattle.lint_pass.specs.lint_base.declared.rule.Rule.TheVariants as rule
use Rattle.lint_pass.specs.lint_base.declared.settings.LinterSettings.{LinterSettings}
use Rattle.lint_pass.specs.lint_base.RuleSets.{Rules, has}
use Rattle.lint_pass.specs.lint_transaction.Events.{each_event}
use Rattle.pass_history.specs.History.{altered_below}
use Rattle.pass_history.specs.AddingNotNullField.{report_on, reports_of_adding_not_null_field, uses_checks}

abbrev pub NotNullByHistory : Type 0
NotNullByHistory =
    (tree : Tree) (rules : Rules) (settings : LinterSettings) → has rules rule.AddingNotNullableField ≡ true
    → reports_of_adding_not_null_field tree rules settings ≡ each_event (report_on (uses_checks settings) tree) [] (altered_below tree (length tree.stmts))
