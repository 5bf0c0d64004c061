use Rattle.std.proofs.Common.{refl}
use Rattle.lint_base.proofs.RuleSets.{rule_at-number_of}
use Rattle.lint_base.specs.Rules.{number_of}
use Rattle.lint_base.proofs.rule.Rule.number.Goals as goal

pub returns-clause-value : goal.returns-clause-value
unfolding number_of
returns-clause-value c = refl

pub returns-clause-place : goal.returns-clause-place
unfolding number_of
returns-clause-place c = rule_at-number_of c.args.self
