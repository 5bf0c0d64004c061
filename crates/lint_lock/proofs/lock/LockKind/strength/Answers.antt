use Rattle.std.proofs.Common.{arith}
use Rattle.lint_lock.proofs.lock.LockKind.strength.Goals as goal

pub returns-in-ShareRowExclusive : goal.returns-in-ShareRowExclusive
returns-in-ShareRowExclusive c = grind arith
