use Rattle.std.proofs.Common.{arith}
use Rattle.lint_transaction.proofs.statement.created.Goals as goal

pub returns-in-Into : goal.returns-in-Into
returns-in-Into c = grind arith
