use Rattle.std.proofs.Common.{arith}
use Rattle.sql_read.proofs.body.table_kind.Goals as goal

pub returns-else-has_keyword : goal.returns-else-has_keyword
returns-else-has_keyword c = grind arith

pub returns-then-has_keyword : goal.returns-then-has_keyword
returns-then-has_keyword c = grind arith
