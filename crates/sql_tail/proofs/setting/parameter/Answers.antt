use Rattle.std.proofs.Common.{arith}
use Rattle.sql_tree.specs.Tails.{parameter}
use Rattle.sql_tail.proofs.setting.parameter.Goals as goal

pub returns-else-begins_value : goal.returns-else-begins_value
unfolding parameter
returns-else-begins_value c = grind arith

pub returns-then-begins_value : goal.returns-then-begins_value
unfolding parameter
returns-then-begins_value c = grind arith
