use Rattle.std.proofs.Common.{arith}
use Rattle.pass_drop.proofs.objects.BanDropSchemaBanPass.code.Goals as goal

pub returns : goal.returns
returns c = grind arith
