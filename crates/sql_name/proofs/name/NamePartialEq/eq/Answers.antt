use Rattle.std.proofs.Common.{arith}
use Rattle.sql_name.proofs.name.NamePartialEq.eq.Goals as goal

pub returns : goal.returns
returns c = grind arith
