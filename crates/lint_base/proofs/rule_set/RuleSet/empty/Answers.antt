use Rattle.lint_base.proofs.RuleSets.{has-no_rules}
use Rattle.lint_base.proofs.rule_set.RuleSet.empty.Goals as goal

pub returns-clause-none : goal.returns-clause-none
returns-clause-none c = has-no_rules
