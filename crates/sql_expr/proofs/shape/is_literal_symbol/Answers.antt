use Rattle.std.proofs.Common.{arith}
use Rattle.sql_expr.proofs.shape.is_literal_symbol.Goals as goal

pub returns-in_default : goal.returns-in_default
returns-in_default c = grind arith

pub returns-in-One : goal.returns-in-One
returns-in-One c = grind arith
