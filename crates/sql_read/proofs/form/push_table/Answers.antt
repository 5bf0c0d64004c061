use Rattle.std.proofs.Common.{arith}
use Rattle.sql_read.proofs.Listed.{listed_table}
use Rattle.sql_read.proofs.form.push_table.Goals as goal

pub returns-in_ok-elems-in-Some : goal.returns-in_ok-elems-in-Some
returns-in_ok-elems-in-Some c = grind (arith, listed_table)
