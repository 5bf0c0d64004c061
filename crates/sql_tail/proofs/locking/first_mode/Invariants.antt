use Rattle.std.proofs.Common.{◌≡◌, length, map}
use Rattle.sql_tree.specs.Tails.{mode_by}
use Rattle.sql_tail.proofs.locking.first_mode.Given as goal

abbrev pub invariant-loop-rest : goal.invariant-loop-rest
invariant-loop-rest l = mode_by (map (λ r. (r.0, r.1.now)) l.rest) l.terminals ≡ mode_by (map (λ r. (r.0, r.1.now)) l.fn.modes) l.terminals

abbrev pub decreases-loop-rest : goal.decreases-loop-rest
decreases-loop-rest l = length l.rest
