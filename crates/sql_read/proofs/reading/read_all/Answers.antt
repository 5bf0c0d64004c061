use Rattle.std.proofs.Common.{arith}
use Rattle.sql_read.proofs.reading.read_all.Goals as goal

pub returns-then-not-branch : goal.returns-then-not-branch
returns-then-not-branch c = grind arith
