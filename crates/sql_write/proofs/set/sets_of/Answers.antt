use Rattle.std.proofs.Common.{arith}
use Rattle.sql_tree.specs.Write.{sets_of}
use Rattle.sql_write.proofs.set.sets_of.Goals as goal

pub returns-in-Merge : goal.returns-in-Merge
unfolding sets_of
returns-in-Merge c = grind arith

pub returns-in-Insert : goal.returns-in-Insert
unfolding sets_of
returns-in-Insert c = grind arith

pub returns-in-Update : goal.returns-in-Update
unfolding sets_of
returns-in-Update c = grind arith

pub returns-in_default : goal.returns-in_default
unfolding sets_of
returns-in_default c = grind arith
