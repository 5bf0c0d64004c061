use Rattle.std.proofs.Common.{◌≡◌, ◌≤◌, length, ◌+◌, None}
use Rattle.sql_tree.specs.Split.{before_from, equals}
use Rattle.sql_mark.proofs.parts.before_equals.Given as goal

abbrev pub invariant-loop-left : goal.invariant-loop-left
invariant-loop-left l = record {
  count : l.count + length l.left ≡ length l.terminals;
  opened : l.opened ≤ l.count;
  closed : l.closed ≤ l.count;
  same : l.count + before_from equals None l.opened l.closed l.left ≡ before_from equals None 0 0 l.terminals;
}

abbrev pub decreases-loop-left : goal.decreases-loop-left
decreases-loop-left l = length l.left
