use Rattle.std.proofs.Common.{arith}
use Rattle.sql_form.proofs.reader.is_index_name.Goals as goal

pub returns-else-is_name : goal.returns-else-is_name
returns-else-is_name c = grind arith

pub returns-then-is_name : goal.returns-then-is_name
returns-then-is_name c = grind arith
