use Rattle.sql_form.proofs.Leads.{mods_may, flag_may}
use Rattle.sql_form.proofs.rows.is_missing.Goals as goal

pub returns-in-Mods : goal.returns-in-Mods
returns-in-Mods c = rw c.in-Mods.is (mods_may c.args.left.now _ c.begins_with_mod.ensures)

pub returns-in-Flag : goal.returns-in-Flag
returns-in-Flag c = rw c.in-Flag.is (flag_may c.in-Flag.word _ c.args.left.now _ c.begins_with.ensures)
