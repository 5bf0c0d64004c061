use Rattle.std.proofs.Common.{arith}
use Rattle.sql_tail.proofs.locking.ends.Goals as goal

pub returns-in-len1 : goal.returns-in-len1
returns-in-len1 c = grind arith
