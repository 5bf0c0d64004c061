use Rattle.std.proofs.Common.{arith}
use Rattle.pass_name.proofs.lists.removable.Goals as goal

pub returns-in-Some : goal.returns-in-Some
returns-in-Some c = grind arith
