use Rattle.std.proofs.Common.{arith}
use Rattle.lint_lock.proofs.lock.LockKind.printed.Goals as goal

pub returns-in-Share : goal.returns-in-Share
returns-in-Share c = grind arith
