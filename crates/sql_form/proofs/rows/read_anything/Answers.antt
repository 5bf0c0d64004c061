use Rattle.std.proofs.Common.{arith}
use Rattle.sql_form.proofs.rows.read_anything.Goals as goal

pub returns : goal.returns
returns c = grind arith
