use Rattle.std.proofs.Common.{◌≡◌, length}
use Rattle.sql_tree.specs.Tails.{lock_mode}
use Rattle.sql_tree.proofs.TailWalks.{lock_walk}
use Rattle.sql_tail.proofs.locking.lock_mode.Given as goal

abbrev pub invariant-loop-left : goal.invariant-loop-left
invariant-loop-left l = lock_walk l.left ≡ lock_mode l.terminals

abbrev pub decreases-loop-left : goal.decreases-loop-left
decreases-loop-left l = length l.left
