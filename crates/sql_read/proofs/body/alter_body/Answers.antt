use Rattle.std.proofs.Common.{arith}
use Rattle.sql_read.proofs.body.alter_body.Goals as goal

pub returns-in-Some : goal.returns-in-Some
returns-in-Some c = grind arith
