use Rattle.std.proofs.Common.{arith}
use Rattle.sql_tree.specs.Column.{leads_constraint}
use Rattle.sql_column.proofs.element.leads_constraint.Goals as goal

pub returns-else-is_keyword : goal.returns-else-is_keyword
unfolding leads_constraint
returns-else-is_keyword c = grind arith

pub returns-then-is_constraint_symbol : goal.returns-then-is_constraint_symbol
unfolding leads_constraint
returns-then-is_constraint_symbol c = grind arith

pub returns-then-is_keyword : goal.returns-then-is_keyword
unfolding leads_constraint
returns-then-is_keyword c = grind arith
