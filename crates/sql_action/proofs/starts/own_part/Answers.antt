use Rattle.std.proofs.Common.{arith}
use Rattle.sql_tree.specs.Action.{own_part}
use Rattle.sql_action.proofs.starts.own_part.Goals as goal

pub returns-in-AlterDatabase : goal.returns-in-AlterDatabase
unfolding own_part
returns-in-AlterDatabase c = grind arith

pub returns-in-AlterRole : goal.returns-in-AlterRole
unfolding own_part
returns-in-AlterRole c = grind arith

pub returns-in-AlterView : goal.returns-in-AlterView
unfolding own_part
returns-in-AlterView c = grind arith

pub returns-in_default : goal.returns-in_default
unfolding own_part
returns-in_default c = grind arith
