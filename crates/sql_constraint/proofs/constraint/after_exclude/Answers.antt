use Rattle.std.proofs.Common.{arith}
use Rattle.sql_tree.specs.Constraint.{after_exclude}
use Rattle.sql_constraint.proofs.constraint.after_exclude.Goals as goal

pub returns-else-is_exclusion : goal.returns-else-is_exclusion
unfolding after_exclude
returns-else-is_exclusion c = grind arith

pub returns-in_err-rest : goal.returns-in_err-rest
unfolding after_exclude
returns-in_err-rest c = grind arith

pub returns-then-is_exclusion : goal.returns-then-is_exclusion
unfolding after_exclude
returns-then-is_exclusion c = grind arith
