use Rattle.std.proofs.Common.{arith}
use Rattle.std.proofs.lemmas.Grind.{common_steps}
use Rattle.sql_tree.specs.Action.{several_actions}
use Rattle.sql_action.proofs.actions.several_actions.Goals as goal

pub loop-part-preserved : goal.loop-part-preserved
unfolding several_actions
loop-part-preserved c = grind (arith, common_steps)
