use Rattle.std.proofs.Common.{arith}
use Rattle.lint_base.proofs.edit.EditOrd.cmp.Goals as goal

pub returns : goal.returns
returns c = grind arith
