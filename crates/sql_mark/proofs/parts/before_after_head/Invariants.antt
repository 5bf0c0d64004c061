use Rattle.std.proofs.Common.{◌≡◌, ◌≤◌, length, ◌+◌}
use Rattle.sql_tree.specs.Pieces.{before_after_head}
use Rattle.sql_mark.specs.Marks.{test_of}
use Rattle.sql_mark.proofs.parts.before_after_head.Given as goal

abbrev pub invariant-loop-left : goal.invariant-loop-left
invariant-loop-left l = record {
  count : l.count + length l.left ≡ length l.terminals;
  opened : l.opened ≤ l.count;
  closed : l.closed ≤ l.count;
  same : l.count + before_after_head (test_of l.mark) l.skip l.previous l.opened l.closed l.left ≡ before_after_head (test_of l.mark) l.fn.head l.fn.earlier 0 0 l.terminals;
}

abbrev pub decreases-loop-left : goal.decreases-loop-left
decreases-loop-left l = length l.left
