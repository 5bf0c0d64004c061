use Rattle.std.proofs.Common.{arith}
use Rattle.lint_lock.proofs.lock.is_light.Goals as goal

pub returns-in-SetOptions : goal.returns-in-SetOptions
returns-in-SetOptions c = grind arith
