use Rattle.std.proofs.Common.{arith}
use Rattle.sql_mark.proofs.parts.is_as_or_dot.Goals as goal

pub returns-else-is_keyword : goal.returns-else-is_keyword
returns-else-is_keyword c = grind arith

pub returns-then-is_keyword : goal.returns-then-is_keyword
returns-then-is_keyword c = grind arith
