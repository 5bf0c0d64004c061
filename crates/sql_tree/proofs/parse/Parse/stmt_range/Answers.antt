use Rattle.std.proofs.Common.{arith}
use Rattle.sql_tree.proofs.parse.Parse.stmt_range.Goals as goal

pub returns : goal.returns
returns c = grind arith
