use Rattle.std.proofs.Common.{arith}
use Rattle.sql_tree.specs.Forms.{family_of}
use Rattle.sql_form.proofs.tables.family_of.Goals as goal

pub returns-in-FOREIGN : goal.returns-in-FOREIGN
unfolding family_of
returns-in-FOREIGN c = grind arith

pub returns-in-FOREIGN-2 : goal.returns-in-FOREIGN-2
unfolding family_of
returns-in-FOREIGN-2 c = grind arith
