use Rattle.lint_base.proofs.RuleSets.{both_rules-bits, has-both_rules}
use Rattle.lint_base.proofs.rule_set.RuleSet.union.Goals as goal

joined : goal.returns-clause-value
joined c = rw (← c.self.view_is, ← c.other.view_is) (both_rules-bits _ _)

pub returns-clause-value : goal.returns-clause-value
returns-clause-value c = joined c

pub returns-clause-rules : goal.returns-clause-rules
returns-clause-rules c = λ q. rw (joined c) (has-both_rules c.args.self c.args.other q)
