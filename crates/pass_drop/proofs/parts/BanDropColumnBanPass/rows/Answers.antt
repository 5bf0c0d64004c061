use Rattle.std.proofs.Common.{arith}
use Rattle.pass_drop.proofs.parts.BanDropColumnBanPass.rows.Goals as goal

pub returns : goal.returns
returns c = grind arith
