use Rattle.std.proofs.Common.{arith}
use Rattle.sql_tree.specs.ColumnType.{array_of}
use Rattle.sql_type.proofs.array.array_of.Goals as goal

pub returns : goal.returns
unfolding array_of
returns c = grind arith
