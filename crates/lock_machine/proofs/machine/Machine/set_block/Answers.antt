use Rattle.std.proofs.Common.{arith}
use Rattle.lock_machine.proofs.machine.Machine.set_block.Goals as goal

pub returns-clause-block : goal.returns-clause-block
returns-clause-block c = grind arith
