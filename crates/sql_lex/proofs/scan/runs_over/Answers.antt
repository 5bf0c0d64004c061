use Rattle.std.proofs.Common.{arith}
use Rattle.sql_lex.proofs.scan.runs_over.Goals as goal

pub returns-then-is_op : goal.returns-then-is_op
returns-then-is_op c = grind arith
