use Rattle.std.proofs.Common.{arith}
use Rattle.sql_form.proofs.Leads.{word_may, object_may}
use Rattle.sql_form.proofs.rows.may_begin.Goals as goal

pub returns-in-Word : goal.returns-in-Word
returns-in-Word c = rw c.in-Word.is (word_may c.in-Word.word c.args.left.now _ c.begins_with.ensures)

pub returns-in-Object : goal.returns-in-Object
returns-in-Object c = rw c.in-Object.is (object_may c.in-Object.word c.args.left.now _ c.begins_with-in-Object.ensures)

pub returns-in_default : goal.returns-in_default
returns-in_default c = grind arith
