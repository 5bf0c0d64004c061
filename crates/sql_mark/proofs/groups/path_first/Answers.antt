use Rattle.std.proofs.Common.{arith}
use Rattle.std.proofs.lemmas.Grind.{common_steps}
use Rattle.sql_tree.specs.Groups.{path_first}
use Rattle.sql_mark.proofs.groups.path_first.Goals as goal

pub returns-in-len1-up : goal.returns-in-len1-up
unfolding path_first
returns-in-len1-up c = grind (arith, common_steps)
