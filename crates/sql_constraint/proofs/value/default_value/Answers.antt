use Rattle.std.proofs.Common.{arith}
use Rattle.sql_tree.specs.Constraint.{default_value}
use Rattle.sql_constraint.proofs.value.default_value.Goals as goal

pub returns : goal.returns
unfolding default_value
returns c = grind arith
