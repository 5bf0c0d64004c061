use Rattle.std.proofs.Common.{◌≡◌, ◌≤◌, length, ◌+◌}
use Rattle.sql_tree.specs.Split.{closing}
use Rattle.sql_mark.proofs.depth.closing.Given as goal

abbrev pub invariant-loop-left : goal.invariant-loop-left
invariant-loop-left l = record {
  count : l.count + length l.left ≡ length l.terminals;
  opened : l.opened ≤ l.count;
  closed : l.closed ≤ l.count;
  same : l.count + closing l.opened l.closed l.left ≡ closing 0 0 l.terminals;
}

abbrev pub decreases-loop-left : goal.decreases-loop-left
decreases-loop-left l = length l.left
