use Rattle.std.proofs.Common.{arith}
use Rattle.std.proofs.lemmas.Grind.{common_steps}
use Rattle.sql_form.proofs.reader.after_mods.Goals as goal

pub loop-here-preserved-then-is_temp_word : goal.loop-here-preserved-then-is_temp_word
loop-here-preserved-then-is_temp_word c = grind (arith, common_steps)

pub loop-here-preserved : goal.loop-here-preserved
loop-here-preserved c = grind (arith, common_steps)

pub returns-in_default : goal.returns-in_default
returns-in_default c = grind (arith, common_steps)

pub returns-then-not-is_other_mod_word : goal.returns-then-not-is_other_mod_word
returns-then-not-is_other_mod_word c = grind arith
