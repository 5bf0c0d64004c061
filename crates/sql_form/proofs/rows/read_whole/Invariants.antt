use Rattle.std.proofs.Common.{◌≡◌, length, map}
use Rattle.sql_tree.specs.Forms.{first_whole}
use Rattle.sql_form.proofs.rows.read_whole.Given as goal

abbrev pub invariant-loop-rest : goal.invariant-loop-rest
invariant-loop-rest g l =
    first_whole (map (λ r. (r.0, r.1.now)) l.rest) l.left ≡ first_whole (map (λ r. (r.0, r.1.now)) l.fn.rows) l.left

abbrev pub decreases-loop-rest : goal.decreases-loop-rest
decreases-loop-rest g l = length l.rest
