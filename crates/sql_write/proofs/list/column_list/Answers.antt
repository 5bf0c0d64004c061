use Rattle.std.proofs.Common.{arith}
use Rattle.sql_tree.specs.Write.{column_list}
use Rattle.sql_write.proofs.list.column_list.Goals as goal

pub returns : goal.returns
unfolding column_list
returns c = grind arith

pub returns-in_err-targets : goal.returns-in_err-targets
unfolding column_list
returns-in_err-targets c = grind arith

pub returns-then-not-begins_list : goal.returns-then-not-begins_list
unfolding column_list
returns-then-not-begins_list c = grind arith
