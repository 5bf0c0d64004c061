use Rattle.std.proofs.Common.{◌∙◌, ap}
use Rattle.lint_base.specs.RuleSets.{Rules, has}
use Rattle.lint_ignore.proofs.RuleNumbers.{has-with_rule}
use Rattle.lint_ignore.proofs.sets.with_rule.Goals as goal

pub returns : goal.returns
returns c = λ q. ap (λ (s : Rules). has s q) c.insert.ensures.value ∙ has-with_rule c.args.set q c.args.rule
