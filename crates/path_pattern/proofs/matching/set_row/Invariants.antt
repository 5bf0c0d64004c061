use Rattle.std.proofs.Common.{ℕ, ◌≤◌, ◌≡◌, ◌+◌, Bool, List, length}
use Rattle.path_pattern.specs.Rows.{IsRow}
use Rattle.path_pattern.proofs.Rows.{Halfway}
use Rattle.path_pattern.proofs.matching.set_row.Given as goal

-- the places that were gone over have the test with the part
abbrev pub invariant-loop-i : goal.invariant-loop-i
invariant-loop-i l = record {
  halfway : (test : List ℕ → Bool) → IsRow test l.path l.fn.row → Halfway l.part test l.path l.i l.row l.is_next;
  long : length l.row ≡ length l.path + 1;
  within : l.i ≤ length l.path;
}
