use Rattle.std.proofs.Common.{arith}
use Rattle.sql_tree.specs.Expression.{shape_of}
use Rattle.sql_expr.proofs.shape.shape_of.Goals as goal

pub returns-then-count-terminals : goal.returns-then-count-terminals
unfolding shape_of
returns-then-count-terminals c = grind arith
