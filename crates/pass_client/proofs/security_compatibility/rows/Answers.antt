use Rattle.std.proofs.Common.{arith}
use Rattle.pass_client.proofs.security_compatibility.rows.Goals as goal

pub returns : goal.returns
returns c = grind arith
