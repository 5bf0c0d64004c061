use Rattle.std.proofs.Common.{◌≡◌, length}
use Rattle.sql_tree.specs.Forms.{take_mods}
use Rattle.sql_form.proofs.reader.after_mods.Given as goal

abbrev pub invariant-loop-here : goal.invariant-loop-here
invariant-loop-here l = take_mods l.kept l.here ≡ take_mods l.fn.kept l.fn.left

abbrev pub decreases-loop-here : goal.decreases-loop-here
decreases-loop-here l = length l.here
