use Rattle.std.proofs.Common.{arith}
use Rattle.std.proofs.lemmas.Grind.{common_steps}
use Rattle.sql_tree.specs.Write.{path_name}
use Rattle.sql_write.proofs.query.path_name.Goals as goal

pub returns-then-is_empty : goal.returns-then-is_empty
unfolding path_name
returns-then-is_empty c = grind (arith, common_steps)

pub returns-else-is_empty : goal.returns-else-is_empty
unfolding path_name
returns-else-is_empty c = grind (arith, common_steps)

pub returns-in_default : goal.returns-in_default
unfolding path_name
returns-in_default c = grind arith

pub returns-in_default-2 : goal.returns-in_default-2
unfolding path_name
returns-in_default-2 c = grind arith
