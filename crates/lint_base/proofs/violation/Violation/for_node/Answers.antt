use Rattle.std.proofs.Common.{arith}
use Rattle.lint_base.proofs.violation.Violation.for_node.Goals as goal

pub returns : goal.returns
returns c = grind arith
