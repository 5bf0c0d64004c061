use Rattle.std.proofs.Common.{arith}
use Rattle.sql_tree.specs.ColumnType.{character_type}
use Rattle.sql_type.proofs.plain.character_type.Goals as goal

pub returns : goal.returns
unfolding character_type
returns c = grind arith
