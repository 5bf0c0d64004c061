use Rattle.std.proofs.Common.{arith}
use Rattle.sql_tree.specs.Action.{built}
use Rattle.sql_action.proofs.actions.built.Goals as goal

pub returns : goal.returns
unfolding built
returns c = grind arith
