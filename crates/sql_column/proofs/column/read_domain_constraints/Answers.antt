use Rattle.std.proofs.Common.{arith}
use Rattle.sql_tree.specs.Column.{domain_constraints}
use Rattle.sql_column.proofs.column.read_domain_constraints.Goals as goal

pub returns-in-empty : goal.returns-in-empty
unfolding domain_constraints
returns-in-empty c = grind arith

pub returns-in_default : goal.returns-in_default
unfolding domain_constraints
returns-in_default c = grind arith
