use Rattle.std.proofs.Common.{arith}
use Rattle.sql_tree.specs.Statement.{front_by}
use Rattle.sql_read.proofs.form.front_by.Goals as goal

pub returns-in-OpenRound : goal.returns-in-OpenRound
unfolding front_by
returns-in-OpenRound c = grind arith
