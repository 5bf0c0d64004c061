use Rattle.std.proofs.Common.{arith}
use Rattle.migration_gate.proofs.status.GateStatus.code.Goals as goal

pub returns-in-ReadFault : goal.returns-in-ReadFault
returns-in-ReadFault c = grind arith
