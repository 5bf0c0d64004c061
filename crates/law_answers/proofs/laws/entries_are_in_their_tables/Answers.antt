use Rattle.std.proofs.Common.{refl}
use Rattle.law_type_fixes.specs.lint_base.declared.rule.Rule.TheVariants as rule
use Rattle.law_type_fixes.specs.lint_base.Rules.{number_of}
use Rattle.law_type_fixes.specs.lint_base.RuleSets.{has, with_rule, both_rules}
use Rattle.law_answers.proofs.Coding.{others_stand, rule_stands, timeouts_stand}
use Rattle.law_answers.proofs.Groups.{both_stand}
use Rattle.law_answers.proofs.laws.entries_are_in_their_tables.Goals as goal

pub returns : goal.returns
unfolding has with_rule both_rules number_of
returns c = (both_stand _ _ (both_stand _ _ (both_stand _ _ (others_stand _ _ refl c.coded.ensures) c.second_group.ensures) (both_stand _ _ c.third_group.ensures c.fourth_group.ensures)) (both_stand _ _ (both_stand _ _ c.fifth_group.ensures (others_stand _ _ refl c.coded-2.ensures)) (both_stand _ _ (others_stand _ _ refl c.coded-3.ensures) (others_stand _ _ refl c.coded-4.ensures))))
