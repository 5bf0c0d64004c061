use Rattle.std.proofs.Common.{arith}
use Rattle.sql_form.proofs.reader.tell.Goals as goal

pub returns-in-Chain : goal.returns-in-Chain
returns-in-Chain c = grind arith

pub returns-in-Guarded : goal.returns-in-Guarded
returns-in-Guarded c = grind arith
