use Rattle.std.proofs.Common.{◌≡◌, ◌+◌, ◌≤◌, drop, length}
use Rattle.path_pattern.specs.Patterns.{begins_with_star, parts_of}
use Rattle.path_pattern.specs.Rows.{IsRow, matched_by}
use Rattle.path_pattern.proofs.matching.is_match.Given as goal

-- the row is that of the parts that were gone over
abbrev pub invariant-loop-i : goal.invariant-loop-i
invariant-loop-i l = record {
  row : IsRow (matched_by (parts_of (drop l.i l.pattern))) l.path l.row.items;
  long : length l.row.items ≡ length l.path + 1;
  star : l.is_before_star ≡ begins_with_star (drop l.i l.pattern);
  within : l.i ≤ length l.pattern;
}
