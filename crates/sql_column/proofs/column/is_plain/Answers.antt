use Rattle.std.proofs.Common.{arith}
use Rattle.sql_column.proofs.column.is_plain.Goals as goal

pub returns-in-Word : goal.returns-in-Word
returns-in-Word c = grind arith

pub returns-in_default : goal.returns-in_default
returns-in_default c = grind arith
