use Rattle.std.proofs.Common.{arith}
use Rattle.sql_name.proofs.name.NameHash.hash.Goals as goal

pub returns : goal.returns
returns g c = grind arith
