use Rattle.std.proofs.Common.{arith}
use Rattle.sql_column.proofs.element.is_constraint_word.Goals as goal

pub returns-in_default : goal.returns-in_default
returns-in_default c = grind arith

pub returns-in_default-2 : goal.returns-in_default-2
returns-in_default-2 c = grind arith
