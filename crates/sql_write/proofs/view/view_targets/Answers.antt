use Rattle.std.proofs.Common.{arith}
use Rattle.std.proofs.lemmas.Grind.{common_steps}
use Rattle.sql_tree.specs.Write.{view_targets}
use Rattle.sql_write.proofs.view.view_targets.Goals as goal

pub returns-in-len2-up : goal.returns-in-len2-up
unfolding view_targets
returns-in-len2-up c = grind (arith, common_steps)

pub returns-in_default : goal.returns-in_default
unfolding view_targets
returns-in_default c = grind arith
