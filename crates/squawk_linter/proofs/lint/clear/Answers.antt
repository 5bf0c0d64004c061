use Rattle.std.proofs.Common.{arith}
use Rattle.squawk_linter.proofs.lint.clear.Goals as goal

pub returns-then-has_disable_assume_in_transaction : goal.returns-then-has_disable_assume_in_transaction
returns-then-has_disable_assume_in_transaction c = grind arith
