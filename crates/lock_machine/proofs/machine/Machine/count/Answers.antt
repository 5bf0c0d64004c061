use Rattle.std.proofs.Common.{arith}
use Rattle.lock_machine.proofs.machine.Machine.count.Goals as goal

pub returns-then-not-self-clause-number : goal.returns-then-not-self-clause-number
returns-then-not-self-clause-number c = grind arith
