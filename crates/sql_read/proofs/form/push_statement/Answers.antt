use Rattle.std.proofs.Common.{arith, rules}
use Rattle.sql_tree.specs.Statement.{statement}
use Rattle.sql_read.proofs.form.push_statement.Goals as goal

pub returns : goal.returns
unfolding statement
returns c = grind arith

pub returns-then-not-is_sound : goal.returns-then-not-is_sound
unfolding statement
returns-then-not-is_sound c = search rules
