use Rattle.std.proofs.Common.{arith}
use Rattle.lock_machine.proofs.machine.Machine.is_young.Goals as goal

pub returns-in-Some : goal.returns-in-Some
returns-in-Some c = grind arith
