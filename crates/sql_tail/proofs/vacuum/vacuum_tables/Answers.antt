use Rattle.std.proofs.Common.{arith}
use Rattle.sql_tree.specs.Tails.{vacuum_tables}
use Rattle.sql_tail.proofs.vacuum.vacuum_tables.Goals as goal

pub returns : goal.returns
unfolding vacuum_tables
returns c = grind arith
