use Rattle.std.proofs.Common.{arith}
use Rattle.sql_tree.specs.Groups.{inside_list}
use Rattle.sql_mark.proofs.groups.inside_list.Goals as goal

pub returns : goal.returns
unfolding inside_list
returns c = grind arith
