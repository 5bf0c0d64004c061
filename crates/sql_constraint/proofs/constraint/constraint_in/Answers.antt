use Rattle.std.proofs.Common.{arith}
use Rattle.sql_tree.specs.Constraint.{constraint_in}
use Rattle.sql_constraint.proofs.constraint.constraint_in.Goals as goal

pub returns : goal.returns
unfolding constraint_in
returns c = grind arith

pub returns-in_err-expr : goal.returns-in_err-expr
unfolding constraint_in
returns-in_err-expr c = grind arith
