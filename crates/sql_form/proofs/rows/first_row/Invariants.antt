use Rattle.std.proofs.Common.{◌≡◌, length, map}
use Rattle.sql_tree.specs.Forms.{first_led}
use Rattle.sql_form.proofs.rows.first_row.Given as goal

abbrev pub invariant-loop-rest : goal.invariant-loop-rest
invariant-loop-rest l =
    first_led (map (λ r. (r.0, r.1.now, r.2.now)) l.rest) l.left ≡ first_led (map (λ r. (r.0, r.1.now, r.2.now)) l.fn.rows) l.left

abbrev pub decreases-loop-rest : goal.decreases-loop-rest
decreases-loop-rest l = length l.rest
