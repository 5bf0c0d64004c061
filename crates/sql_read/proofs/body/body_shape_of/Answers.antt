use Rattle.std.proofs.Common.{arith}
use Rattle.sql_tree.specs.Statement.{body_shape_of}
use Rattle.sql_read.proofs.body.body_shape_of.Goals as goal

pub returns-in-DropIndex : goal.returns-in-DropIndex
unfolding body_shape_of
returns-in-DropIndex c = grind arith
