use Rattle.std.proofs.Common.{arith}
use Rattle.lint_transaction.proofs.tables.TablesCreatedInTransaction.forget_some.Goals as goal

pub returns-then-capacity-le-KEPT_CAPACITY-clause-tables : goal.returns-then-capacity-le-KEPT_CAPACITY-clause-tables
returns-then-capacity-le-KEPT_CAPACITY-clause-tables c = grind arith

pub returns-else-capacity-le-KEPT_CAPACITY-clause-tables : goal.returns-else-capacity-le-KEPT_CAPACITY-clause-tables
returns-else-capacity-le-KEPT_CAPACITY-clause-tables c = grind arith
