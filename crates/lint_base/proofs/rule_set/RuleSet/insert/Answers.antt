use Rattle.lint_base.proofs.RuleSets.{with_rule-bits, has-with_rule_same, has-with_rule_other}
use Rattle.lint_base.proofs.rule_set.RuleSet.insert.Goals as goal

changed : goal.returns-clause-value
changed c = rw (← c.self.view_is) (with_rule-bits _ c.number.result c.args.r c.number.ensures.value)

pub returns-clause-value : goal.returns-clause-value
returns-clause-value c = changed c

pub returns-clause-inserted : goal.returns-clause-inserted
returns-clause-inserted c = rw (changed c) (has-with_rule_same c.args.self.now c.args.r)

pub returns-clause-others : goal.returns-clause-others
returns-clause-others c = λ q d. rw (changed c) (has-with_rule_other c.args.self.now q c.args.r d)
