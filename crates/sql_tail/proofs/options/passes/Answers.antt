use Rattle.std.proofs.Common.{arith}
use Rattle.sql_tree.specs.Tails.{is_concurrent, is_valued}
use Rattle.sql_tail.proofs.options.passes.Goals as goal

pub returns-then-begins_with : goal.returns-then-begins_with
unfolding is_concurrent is_valued
returns-then-begins_with c = grind arith
