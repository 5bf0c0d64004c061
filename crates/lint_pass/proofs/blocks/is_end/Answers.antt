use Rattle.std.proofs.Common.{arith}
use Rattle.lint_pass.proofs.blocks.is_end.Goals as goal

pub returns-in_default : goal.returns-in_default
returns-in_default c = grind arith
