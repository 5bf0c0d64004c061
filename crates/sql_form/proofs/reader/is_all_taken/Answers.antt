use Rattle.std.proofs.Common.{arith}
use Rattle.sql_form.proofs.reader.is_all_taken.Goals as goal

pub returns-else-kept : goal.returns-else-kept
returns-else-kept c = grind arith

pub returns-then-kept : goal.returns-then-kept
returns-then-kept c = grind arith
