use Rattle.std.proofs.Common.{arith}
use Rattle.sql_tree.specs.Column.{drops_on_commit}
use Rattle.sql_column.proofs.element.drops_on_commit.Goals as goal

pub returns : goal.returns
unfolding drops_on_commit
returns c = grind arith
