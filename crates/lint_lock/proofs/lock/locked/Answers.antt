use Rattle.std.proofs.Common.{arith}
use Rattle.lint_lock.proofs.lock.locked.Goals as goal

pub returns-in-Locking-Some : goal.returns-in-Locking-Some
returns-in-Locking-Some c = grind arith
