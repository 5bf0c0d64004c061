-- Texts of which nothing is reported, and work on tables that nobody else knows.
use Rattle.std.specs.Prelude.{◌≡◌, true, false, []}
use Rattle.lock_machine.specs.sql_tree.Statement.{Tree}
use Rattle.lock_machine.specs.lint_base.declared.rule.Rule.{Rule}
use Rattle.lock_machine.specs.lint_base.declared.settings.LinterSettings.{LinterSettings}
use Rattle.lock_machine.specs.lint_base.Rules.{is_opt_in}
use Rattle.lock_machine.specs.lint_base.RuleSets.{Rules, has}
use Rattle.pass_groups.specs.OwnTable.{own_table}
use Rattle.lock_machine.specs.declared.work.Work.{Work}

-- The rules of the default set are enabled, and maybe others.
abbrev pub HasDefaults : Rules → Type 0
HasDefaults rules = (r : Rule) → is_opt_in r ≡ false → has rules r ≡ true

-- The rules of the default set are enabled, and no pass of the linter reports anything of a text.
pub record IsClean (tree : Tree) (rules : Rules) (settings : LinterSettings) : Type 0 where
  pub has_defaults : HasDefaults rules
  pub no_reports : own_table tree rules settings ≡ []

-- The table of the work is named, and was created in the transaction that does the work: nobody else can wait for it.
abbrev pub IsYoung : Work → Type 0
IsYoung w = w.old ≡ false
