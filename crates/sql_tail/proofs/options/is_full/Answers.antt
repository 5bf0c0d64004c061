use Rattle.std.proofs.Common.{arith}
use Rattle.sql_tree.specs.Tails.{is_full}
use Rattle.sql_tail.proofs.options.is_full.Goals as goal

pub returns-else-is_keyword : goal.returns-else-is_keyword
unfolding is_full
returns-else-is_keyword c = grind arith

pub returns-then-is_keyword : goal.returns-then-is_keyword
unfolding is_full
returns-then-is_keyword c = grind arith
