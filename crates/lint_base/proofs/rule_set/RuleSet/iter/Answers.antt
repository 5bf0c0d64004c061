use Rattle.std.proofs.Common.{arith}
use Rattle.lint_base.proofs.rule_set.RuleSet.iter.Goals as goal

pub returns : goal.returns
returns c = grind arith
