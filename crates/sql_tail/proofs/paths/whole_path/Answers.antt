use Rattle.std.proofs.Common.{arith}
use Rattle.sql_tree.specs.Tails.{whole_path}
use Rattle.sql_tail.proofs.paths.whole_path.Goals as goal

pub returns-then-is_empty : goal.returns-then-is_empty
unfolding whole_path
returns-then-is_empty c = grind arith
