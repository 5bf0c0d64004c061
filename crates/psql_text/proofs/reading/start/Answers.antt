use Rattle.std.proofs.Common.{arith}
use Rattle.psql_text.proofs.reading.start.Goals as goal

pub returns-clause-place : goal.returns-clause-place
returns-clause-place c = λ t. record { at = omega arith; taken = omega arith; opened = omega (arith, c.new.ensures.few); closed = omega (arith, c.new.ensures.few) }
