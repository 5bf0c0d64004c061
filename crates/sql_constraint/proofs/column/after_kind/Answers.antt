use Rattle.std.proofs.Common.{arith}
use Rattle.sql_constraint.proofs.column.after_kind.Goals as goal

pub returns-in-PrimaryKey : goal.returns-in-PrimaryKey
returns-in-PrimaryKey c = grind arith

pub returns-in-NotNull : goal.returns-in-NotNull
returns-in-NotNull c = grind arith

pub returns-in_default : goal.returns-in_default
returns-in_default c = grind arith
