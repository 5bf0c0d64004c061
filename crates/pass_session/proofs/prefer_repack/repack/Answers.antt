use Rattle.std.proofs.Common.{arith}
use Rattle.pass_session.proofs.prefer_repack.repack.Goals as goal

pub returns : goal.returns
returns c = grind arith
