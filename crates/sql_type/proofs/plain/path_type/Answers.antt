use Rattle.std.proofs.Common.{arith}
use Rattle.sql_tree.specs.ColumnType.{path_type}
use Rattle.sql_type.proofs.plain.path_type.Goals as goal

pub returns : goal.returns
unfolding path_type
returns c = grind arith
