use Rattle.std.proofs.Common.{arith}
use Rattle.sql_read.proofs.body.cluster_body.Goals as goal

pub returns : goal.returns
returns c = grind arith
