use Rattle.std.proofs.Common.{arith}
use Rattle.sql_read.proofs.reading.read_text.Goals as goal

pub returns-in-Err-Unterminated-clause-err : goal.returns-in-Err-Unterminated-clause-err
returns-in-Err-Unterminated-clause-err c = grind arith
