use Rattle.std.proofs.Common.{arith}
use Rattle.std.proofs.lemmas.Grind.{common_steps}
use Rattle.sql_tree.specs.Statement.{form_of, form_from}
use Rattle.sql_read.proofs.form.push_form.Goals as goal

pub returns-then-is_empty : goal.returns-then-is_empty
unfolding form_of
returns-then-is_empty c = grind arith

pub returns-in-Some : goal.returns-in-Some
unfolding form_of form_from
returns-in-Some c = grind (arith, common_steps)

pub returns-in-empty : goal.returns-in-empty
unfolding form_of form_from
returns-in-empty c = grind arith
