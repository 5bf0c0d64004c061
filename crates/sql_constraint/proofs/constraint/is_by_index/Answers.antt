use Rattle.std.proofs.Common.{arith}
use Rattle.sql_tree.specs.Constraint.{by_index}
use Rattle.sql_constraint.proofs.constraint.is_by_index.Goals as goal

pub returns-then-is_key : goal.returns-then-is_key
unfolding by_index
returns-then-is_key c = grind arith

pub returns-else-is_key : goal.returns-else-is_key
unfolding by_index
returns-else-is_key c = grind arith
