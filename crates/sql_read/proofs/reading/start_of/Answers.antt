use Rattle.std.proofs.Common.{arith}
use Rattle.sql_read.proofs.reading.start_of.Goals as goal

pub returns-in-Some : goal.returns-in-Some
returns-in-Some c = grind arith
