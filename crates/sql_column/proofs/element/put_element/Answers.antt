use Rattle.std.proofs.Common.{arith}
use Rattle.std.proofs.lemmas.Grind.{common_steps}
use Rattle.sql_tree.specs.Column.{element}
use Rattle.sql_column.proofs.element.put_element.Goals as goal

pub returns-else-is_keyword : goal.returns-else-is_keyword
unfolding element
returns-else-is_keyword c = grind (arith, common_steps)

pub returns-then-leads_constraint : goal.returns-then-leads_constraint
unfolding element
returns-then-leads_constraint c = grind (arith, common_steps)
