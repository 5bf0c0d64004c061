use Rattle.std.proofs.Common.{arith}
use Rattle.sql_tree.specs.ColumnType.{array_by_groups}
use Rattle.sql_type.proofs.array.array_by_groups.Goals as goal

pub returns-then-count-terminals : goal.returns-then-count-terminals
unfolding array_by_groups
returns-then-count-terminals c = grind arith
