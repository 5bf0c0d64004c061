use Rattle.std.proofs.Common.{arith}
use Rattle.sql_tree.specs.Forms.{rows_of}
use Rattle.sql_form.proofs.tables.rows_of.Goals as goal

pub returns-in-ABORT : goal.returns-in-ABORT
unfolding rows_of
returns-in-ABORT c = grind arith

pub returns-in-DROP : goal.returns-in-DROP
unfolding rows_of
returns-in-DROP c = grind arith
