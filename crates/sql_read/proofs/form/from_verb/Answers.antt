use Rattle.std.proofs.Common.{arith}
use Rattle.std.proofs.lemmas.Grind.{common_steps}
use Rattle.sql_tree.specs.Statement.{from_verb}
use Rattle.sql_read.proofs.form.from_verb.Goals as goal

pub returns-in-len1-up : goal.returns-in-len1-up
unfolding from_verb
returns-in-len1-up c = grind (arith, common_steps)
