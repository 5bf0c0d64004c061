use Rattle.std.proofs.Common.{arith}
use Rattle.devices.proofs.slice.SliceSourceSource.read.Goals as goal

pub returns-clause-count : goal.returns-clause-count
returns-clause-count c = grind arith
