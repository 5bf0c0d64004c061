use Rattle.std.proofs.Common.{arith}
use Rattle.lint_transaction.proofs.tables.TablesCreatedInTransaction.add_at.Goals as goal

pub returns-clause-ok : goal.returns-clause-ok
returns-clause-ok c = grind arith
