use Rattle.std.proofs.Common.{arith}
use Rattle.std.proofs.lemmas.Grind.{common_steps}
use Rattle.sql_tree.specs.Expression.{cast_at}
use Rattle.sql_expr.proofs.shape.cast_at.Goals as goal

pub returns-else-count-terminals : goal.returns-else-count-terminals
unfolding cast_at
returns-else-count-terminals c = grind (arith, common_steps)

pub returns-else-count-terminals-2 : goal.returns-else-count-terminals-2
unfolding cast_at
returns-else-count-terminals-2 c = grind (arith, common_steps)

pub returns-then-count-terminals : goal.returns-then-count-terminals
unfolding cast_at
returns-then-count-terminals c = grind arith

pub returns-then-count-terminals-2 : goal.returns-then-count-terminals-2
unfolding cast_at
returns-then-count-terminals-2 c = grind (arith, common_steps)
