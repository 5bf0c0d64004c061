use Rattle.std.proofs.Common.{arith}
use Rattle.sql_keyword.specs.Same.{same_keyword}
use Rattle.sql_keyword.proofs.words.same_keyword.Goals as goal

pub returns : goal.returns
unfolding same_keyword
returns c = grind arith
