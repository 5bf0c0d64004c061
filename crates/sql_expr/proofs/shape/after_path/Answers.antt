use Rattle.std.proofs.Common.{arith}
use Rattle.sql_tree.specs.Expression.{after_path}
use Rattle.sql_expr.proofs.shape.after_path.Goals as goal

pub returns-else-is_list : goal.returns-else-is_list
unfolding after_path
returns-else-is_list c = grind arith

pub returns-then-is_list : goal.returns-then-is_list
unfolding after_path
returns-then-is_list c = grind arith

pub returns-then-is_empty : goal.returns-then-is_empty
unfolding after_path
returns-then-is_empty c = grind arith
