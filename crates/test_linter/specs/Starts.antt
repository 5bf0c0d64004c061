-- What the pass of these tests that is no step pass reports: the start of the text.
use Rattle.std.specs.Prelude.{List, [], ◌∷◌, codes, if◌then◌else◌}
use Rattle.squawk_cli.specs.lint_base.declared.rule.Rule.TheVariants as rule
use Rattle.squawk_cli.specs.lint_base.declared.violation.Violation.{Violation}
use Rattle.squawk_cli.specs.lint_base.RuleSets.{Rules, has}
use Rattle.squawk_cli.specs.lint_base.Violations.{violation}

abbrev pub start_report : Violation
start_report = violation rule.BanDropTable (codes "start") (record { start = 0; end = 0 })

-- the reports of these tests: one at the start of the text, where the rule is enabled
abbrev pub start_reports : Rules → List Violation
start_reports rules = if has rules rule.BanDropTable then start_report ∷ [] else []
