use Rattle.std.proofs.Common.{refl}
use Rattle.law_type_fixes.specs.lint_base.declared.rule.Rule.TheVariants as rule
use Rattle.law_type_fixes.specs.lint_base.Rules.{number_of}
use Rattle.law_type_fixes.specs.lint_base.RuleSets.{has, with_rule, both_rules}
use Rattle.law_answers.proofs.Coding.{others_stand, rule_stands, timeouts_stand}
use Rattle.law_answers.proofs.Groups.{both_stand}
use Rattle.law_answers.proofs.laws.third_group.Goals as goal

pub returns : goal.returns
unfolding has with_rule both_rules number_of
returns c = (both_stand _ _ (both_stand _ _ (both_stand _ _ (both_stand _ _ (others_stand _ _ refl c.coded.ensures) (others_stand _ _ refl c.coded-2.ensures)) (both_stand _ _ (others_stand _ _ refl c.coded-3.ensures) (rule_stands rule.PreferTextField _ (λ tree rules settings v inside. inside) c.coded-4.ensures))) (both_stand _ _ (both_stand _ _ (rule_stands rule.PreferTimestampTz _ (λ tree rules settings v inside. inside) c.coded-5.ensures) (others_stand _ _ refl c.coded-6.ensures)) (others_stand _ _ refl c.coded-7.ensures))) (rule_stands rule.RequireConcurrentIndexCreation _ (λ tree rules settings v inside. inside) c.coded-8.ensures))
