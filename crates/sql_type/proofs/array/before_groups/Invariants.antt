use Rattle.std.proofs.Common.{◌≡◌, ◌≤◌, length, ◌+◌}
use Rattle.sql_type.proofs.Groups.{kept_from}
use Rattle.sql_type.proofs.array.before_groups.Given as goal

abbrev pub invariant-loop-left : goal.invariant-loop-left
invariant-loop-left l = record {
  count : l.count + length l.left ≡ length l.terminals;
  kept : l.kept ≤ l.count;
  opened : l.opened ≤ l.count;
  closed : l.closed ≤ l.count;
  same : kept_from l.kept l.count l.opened l.closed l.left ≡ kept_from 0 0 0 0 l.terminals;
}

abbrev pub decreases-loop-left : goal.decreases-loop-left
decreases-loop-left l = length l.left
