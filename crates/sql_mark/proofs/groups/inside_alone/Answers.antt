use Rattle.std.proofs.Common.{arith}
use Rattle.sql_tree.specs.Groups.{inside_list, is_list}
use Rattle.sql_mark.proofs.groups.inside_alone.Goals as goal

pub returns : goal.returns
unfolding is_list inside_list
returns c = grind arith

pub returns-then-end-lt2 : goal.returns-then-end-lt2
unfolding is_list inside_list
returns-then-end-lt2 c = grind arith
