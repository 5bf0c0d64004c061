use Rattle.std.proofs.Common.{arith}
use Rattle.sql_tree.specs.ColumnType.{zone}
use Rattle.sql_type.proofs.plain.zone.Goals as goal

pub returns-then-is_keyword : goal.returns-then-is_keyword
unfolding zone
returns-then-is_keyword c = grind arith
