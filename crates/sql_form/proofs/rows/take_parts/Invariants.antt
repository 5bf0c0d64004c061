use Rattle.std.proofs.Common.{◌≡◌, length}
use Rattle.sql_tree.specs.Forms.{in_turn}
use Rattle.sql_form.proofs.rows.take_parts.Given as goal

abbrev pub invariant-loop-rest : goal.invariant-loop-rest
invariant-loop-rest l = in_turn l.rest l.kept l.here ≡ in_turn l.fn.parts l.fn.kept l.fn.left

abbrev pub decreases-loop-rest : goal.decreases-loop-rest
decreases-loop-rest l = length l.rest
