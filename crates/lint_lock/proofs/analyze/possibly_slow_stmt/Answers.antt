use Rattle.std.proofs.Common.{arith}
use Rattle.lint_lock.proofs.analyze.possibly_slow_stmt.Goals as goal

pub returns-in-Table : goal.returns-in-Table
returns-in-Table c = grind arith

pub returns-in_default : goal.returns-in_default
returns-in_default c = grind arith

pub returns-in_default-body : goal.returns-in_default-body
returns-in_default-body c = grind arith
