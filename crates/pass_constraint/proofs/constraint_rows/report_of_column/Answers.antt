use Rattle.std.proofs.Common.{rules}
use Rattle.pass_constraint.proofs.constraint_rows.report_of_column.Goals as goal

pub returns-then-not-is_new-clause-ok : goal.returns-then-not-is_new-clause-ok
returns-then-not-is_new-clause-ok c = search rules

pub returns-then-not-is_new-clause-err : goal.returns-then-not-is_new-clause-err
returns-then-not-is_new-clause-err c = search rules

pub returns-else-same_constraint-clause-ok : goal.returns-else-same_constraint-clause-ok
returns-else-same_constraint-clause-ok c = search rules

pub returns-else-same_constraint-clause-err : goal.returns-else-same_constraint-clause-err
returns-else-same_constraint-clause-err c = search rules
