use Rattle.std.proofs.Common.{arith}
use Rattle.devices.proofs.memory_stream.MemSinkSink.write.Goals as goal

pub returns-clause-count : goal.returns-clause-count
returns-clause-count c = grind arith

pub returns-clause-listed : goal.returns-clause-listed
returns-clause-listed c = grind arith
