use Rattle.std.proofs.Common.{arith}
use Rattle.sql_column.proofs.element.elements_inside.Goals as goal

pub returns : goal.returns
returns c = grind arith

pub returns-then-is_empty : goal.returns-then-is_empty
returns-then-is_empty c = grind arith
