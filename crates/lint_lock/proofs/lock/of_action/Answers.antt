use Rattle.std.proofs.Common.{arith}
use Rattle.lint_lock.proofs.lock.of_action.Goals as goal

pub returns-in-AddConstraint : goal.returns-in-AddConstraint
returns-in-AddConstraint c = grind arith
