use Rattle.lint_base.proofs.RuleSets.{intersects-bits}
use Rattle.lint_base.proofs.rule_set.RuleSet.intersects.Goals as goal

pub returns : goal.returns
returns c = rw (← c.self.view_is, ← c.other.view_is) (intersects-bits _ _)
