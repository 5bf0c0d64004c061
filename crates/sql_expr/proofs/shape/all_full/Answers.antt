use Rattle.std.proofs.Common.{arith}
use Rattle.sql_tree.specs.Expression.{all_full}
use Rattle.sql_expr.proofs.shape.all_full.Goals as goal

pub loop-part-preserved : goal.loop-part-preserved
unfolding all_full
loop-part-preserved c = grind arith

pub returns : goal.returns
unfolding all_full
returns c = grind arith

pub returns-then-is_empty : goal.returns-then-is_empty
unfolding all_full
returns-then-is_empty c = grind arith
