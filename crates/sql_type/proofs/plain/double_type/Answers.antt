use Rattle.std.proofs.Common.{arith}
use Rattle.sql_tree.specs.ColumnType.{double_type}
use Rattle.sql_type.proofs.plain.double_type.Goals as goal

pub returns : goal.returns
unfolding double_type
returns c = grind arith
