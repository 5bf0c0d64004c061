use Rattle.std.proofs.Common.{arith}
use Rattle.pass_concurrent.proofs.concurrently.concurrently_after.Goals as goal

pub returns : goal.returns
returns c = grind arith
