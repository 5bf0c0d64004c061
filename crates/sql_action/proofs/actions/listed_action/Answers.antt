use Rattle.std.proofs.Common.{arith}
use Rattle.sql_action.proofs.Puts.{first_put, other_put}
use Rattle.sql_tree.specs.Action.{listed_action}
use Rattle.sql_action.proofs.actions.listed_action.Goals as goal

pub returns : goal.returns
unfolding listed_action
returns c = grind (arith, first_put, other_put)

pub returns-then-branch : goal.returns-then-branch
unfolding listed_action
returns-then-branch c = grind (arith, first_put, other_put)

pub returns-then-branch-2 : goal.returns-then-branch-2
unfolding listed_action
returns-then-branch-2 c = grind (arith, first_put, other_put)

pub returns-in_err-by_rows : goal.returns-in_err-by_rows
unfolding listed_action
returns-in_err-by_rows c = grind (arith, first_put, other_put)

pub returns-in_err-own_action : goal.returns-in_err-own_action
unfolding listed_action
returns-in_err-own_action c = grind (arith, first_put, other_put)
