use Rattle.std.proofs.Common.{arith, rules}
use Rattle.lint_transaction.proofs.tables.TablesCreatedInTransaction.create_or_forget.Goals as goal

pub returns-then-ends-clause-err : goal.returns-then-ends-clause-err
returns-then-ends-clause-err c = grind arith

pub returns-then-ends-clause-ok : goal.returns-then-ends-clause-ok
returns-then-ends-clause-ok c = grind arith

pub returns-then-ends-clause-open : goal.returns-then-ends-clause-open
returns-then-ends-clause-open c = grind arith

pub returns-then-inside-clause-open : goal.returns-then-inside-clause-open
returns-then-inside-clause-open c = search rules

pub returns-then-inside-clause-ok : goal.returns-then-inside-clause-ok
returns-then-inside-clause-ok c = search rules

pub returns-then-inside-clause-err : goal.returns-then-inside-clause-err
returns-then-inside-clause-err c = search rules

pub returns-else-inside-clause-open : goal.returns-else-inside-clause-open
returns-else-inside-clause-open c = search rules

pub returns-else-inside-clause-ok : goal.returns-else-inside-clause-ok
returns-else-inside-clause-ok c = search rules

pub returns-else-inside-clause-err : goal.returns-else-inside-clause-err
returns-else-inside-clause-err c = search rules
