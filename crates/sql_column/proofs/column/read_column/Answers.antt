use Rattle.std.proofs.Common.{arith}
use Rattle.std.proofs.lemmas.Grind.{common_steps}
use Rattle.sql_tree.specs.Column.{column}
use Rattle.sql_column.proofs.column.read_column.Goals as goal

pub returns : goal.returns
unfolding column
returns c = grind (arith, common_steps)

pub returns-in_default-2 : goal.returns-in_default-2
unfolding column
returns-in_default-2 c = grind (arith, common_steps)
