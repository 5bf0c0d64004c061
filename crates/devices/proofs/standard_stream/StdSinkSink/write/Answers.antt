use Rattle.std.proofs.Common.{arith}
use Rattle.devices.proofs.standard_stream.StdSinkSink.write.Goals as goal

pub returns-then-count-gt0-clause-some : goal.returns-then-count-gt0-clause-some
returns-then-count-gt0-clause-some g c = grind arith
