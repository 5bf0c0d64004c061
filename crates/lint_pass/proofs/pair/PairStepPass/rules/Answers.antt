use Rattle.std.proofs.Common.{arith}
use Rattle.lint_pass.proofs.pair.PairStepPass.rules.Goals as goal

pub returns : goal.returns
returns g c = grind arith
