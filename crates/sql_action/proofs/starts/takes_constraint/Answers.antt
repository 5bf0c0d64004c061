use Rattle.std.proofs.Common.{arith}
use Rattle.sql_tree.specs.Action.{takes_constraint}
use Rattle.sql_action.proofs.starts.takes_constraint.Goals as goal

pub returns-in-None : goal.returns-in-None
unfolding takes_constraint
returns-in-None c = grind arith

pub returns-in-Some : goal.returns-in-Some
unfolding takes_constraint
returns-in-Some c = grind arith

pub returns-in_default : goal.returns-in_default
unfolding takes_constraint
returns-in_default c = grind arith
