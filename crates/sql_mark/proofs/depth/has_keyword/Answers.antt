use Rattle.std.proofs.Common.{arith}
use Rattle.sql_token.specs.Depth.{has_keyword}
use Rattle.sql_mark.proofs.depth.has_keyword.Goals as goal

pub returns-then-is_keyword : goal.returns-then-is_keyword
unfolding has_keyword
returns-then-is_keyword c = grind arith
