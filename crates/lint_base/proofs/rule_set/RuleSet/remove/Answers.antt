use Rattle.lint_base.proofs.RuleSets.{without_rule-bits, has-without_rule_same, has-without_rule_other}
use Rattle.lint_base.proofs.rule_set.RuleSet.remove.Goals as goal

changed : goal.returns-clause-value
changed c = rw (← c.self.view_is) (without_rule-bits _ c.number.result c.args.r c.number.ensures.value)

pub returns-clause-value : goal.returns-clause-value
returns-clause-value c = changed c

pub returns-clause-removed : goal.returns-clause-removed
returns-clause-removed c = rw (changed c) (has-without_rule_same c.args.self.now c.args.r)

pub returns-clause-others : goal.returns-clause-others
returns-clause-others c = λ q d. rw (changed c) (has-without_rule_other c.args.self.now q c.args.r d)
