-- The reports of a pass of one rule.
use Rattle.std.specs.Prelude.{ℕ, List, [], if◌then◌else◌}
use Rattle.lint_base.specs.declared.rule.Rule.{Rule}
use Rattle.lint_base.specs.declared.violation.Violation.{Violation}
use Rattle.lint_base.specs.RuleSets.{Rules, has}
use Rattle.lint_transaction.specs.Earlier.{concat_below}

-- the reports on a statement, where the rule is enabled
abbrev pub enabled_reports : Rule → (ℕ → List Violation) → Rules → ℕ → List Violation
enabled_reports code reports rules i = if has rules code then reports i else []

-- statement by statement
abbrev pub table_of : Rule → (ℕ → List Violation) → Rules → ℕ → List Violation
table_of code reports rules n = concat_below (enabled_reports code reports rules) n

-- the reports after the last statement, where the rule is enabled
abbrev pub where_of : Rule → List Violation → Rules → List Violation
where_of code xs rules = if has rules code then xs else []
