use Rattle.std.proofs.Common.{arith}
use Rattle.sql_tree.specs.Constraint.{column_constraint}
use Rattle.sql_constraint.proofs.column.column_constraint.Goals as goal

pub returns : goal.returns
unfolding column_constraint
returns c = grind arith

pub returns-then-is_empty : goal.returns-then-is_empty
unfolding column_constraint
returns-then-is_empty c = grind arith

pub returns-in_default : goal.returns-in_default
unfolding column_constraint
returns-in_default c = grind arith

pub returns-in_default-column_kind : goal.returns-in_default-column_kind
unfolding column_constraint
returns-in_default-column_kind c = grind arith

pub returns-in_err-constraint : goal.returns-in_err-constraint
unfolding column_constraint
returns-in_err-constraint c = grind arith
