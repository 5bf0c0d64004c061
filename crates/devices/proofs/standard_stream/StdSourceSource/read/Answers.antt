use Rattle.std.proofs.Common.{arith}
use Rattle.devices.proofs.standard_stream.StdSourceSource.read.Goals as goal

pub returns-in-Err-clause-cause : goal.returns-in-Err-clause-cause
returns-in-Err-clause-cause g c = grind arith

pub returns-in-Err-clause-counted : goal.returns-in-Err-clause-counted
returns-in-Err-clause-counted g c = grind arith
