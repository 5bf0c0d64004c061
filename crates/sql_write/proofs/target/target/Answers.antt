use Rattle.std.proofs.Common.{arith}
use Rattle.std.proofs.lemmas.Grind.{common_steps}
use Rattle.sql_tree.specs.Write.{target}
use Rattle.sql_write.proofs.target.target.Goals as goal

pub returns-then-are_accessors : goal.returns-then-are_accessors
unfolding target
returns-then-are_accessors c = grind (arith, common_steps)

pub returns-else-is_name : goal.returns-else-is_name
unfolding target
returns-else-is_name c = grind (arith, common_steps)

pub returns-in-empty : goal.returns-in-empty
unfolding target
returns-in-empty c = grind arith
