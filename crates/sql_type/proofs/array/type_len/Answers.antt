use Rattle.std.proofs.Common.{arith}
use Rattle.sql_tree.specs.ColumnType.{type_len}
use Rattle.sql_type.proofs.array.type_len.Goals as goal

pub returns : goal.returns
unfolding type_len
returns c = grind arith
