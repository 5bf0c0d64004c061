use Rattle.std.proofs.Common.{◌≡◌, ◌≤◌, ◌+◌, length, nat_lt, None}
use Rattle.sql_tree.specs.Split.{before_from}
use Rattle.sql_tree.specs.Write.{no_accessor}
use Rattle.sql_write.proofs.target.are_accessors.Given as goal

abbrev pub invariant-loop-left : goal.invariant-loop-left
invariant-loop-left l = record {
  opened : l.opened + length l.left ≤ length l.terminals;
  closed : l.closed + length l.left ≤ length l.terminals;
  same : nat_lt (before_from no_accessor l.earlier l.opened l.closed l.left) (length l.left)
      ≡ nat_lt (before_from no_accessor None 0 0 l.terminals) (length l.terminals);
}

abbrev pub decreases-loop-left : goal.decreases-loop-left
decreases-loop-left l = length l.left
