use Rattle.std.proofs.Common.{rules}
use Rattle.sql_constraint.proofs.constraint.read_table_constraint.Goals as goal

pub returns-in_err-constraint : goal.returns-in_err-constraint
returns-in_err-constraint c = search rules
