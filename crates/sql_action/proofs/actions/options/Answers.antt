use Rattle.std.proofs.Common.{arith}
use Rattle.sql_tree.specs.Action.{options}
use Rattle.sql_action.proofs.actions.options.Goals as goal

pub returns-else-takes_options : goal.returns-else-takes_options
unfolding options
returns-else-takes_options c = grind arith

pub returns-then-takes_options : goal.returns-then-takes_options
unfolding options
returns-then-takes_options c = grind arith
