use Rattle.std.proofs.Common.{arith}
use Rattle.sql_name.proofs.name.Name.folded.Goals as goal

pub returns : goal.returns
returns c = grind arith
