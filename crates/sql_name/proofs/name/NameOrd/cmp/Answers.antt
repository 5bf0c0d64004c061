use Rattle.std.proofs.Common.{arith}
use Rattle.sql_name.proofs.name.NameOrd.cmp.Goals as goal

pub returns : goal.returns
returns c = grind arith
