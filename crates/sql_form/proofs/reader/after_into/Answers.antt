use Rattle.std.proofs.Common.{arith}
use Rattle.sql_form.proofs.reader.after_into.Goals as goal

pub returns : goal.returns
returns c = grind arith
