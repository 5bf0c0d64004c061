use Rattle.std.proofs.Common.{arith}
use Rattle.sql_name.proofs.full_name.FullNamePartialEq.eq.Goals as goal

pub returns : goal.returns
returns c = grind arith
