use Rattle.std.proofs.Common.{arith}
use Rattle.std.proofs.lemmas.Grind.{common_steps}
use Rattle.sql_tree.specs.Write.{after_alias}
use Rattle.sql_write.proofs.list.after_alias.Goals as goal

pub returns-in-len2-up : goal.returns-in-len2-up
unfolding after_alias
returns-in-len2-up c = grind (arith, common_steps)

pub returns-in_default : goal.returns-in_default
unfolding after_alias
returns-in_default c = grind arith

pub returns-in_default-2 : goal.returns-in_default-2
unfolding after_alias
returns-in_default-2 c = grind arith

pub returns-in_default-3 : goal.returns-in_default-3
unfolding after_alias
returns-in_default-3 c = grind arith
