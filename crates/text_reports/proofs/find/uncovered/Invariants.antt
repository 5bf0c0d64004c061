use Rattle.std.proofs.Common.{◌≡◌, ◌++◌}
use Rattle.std.specs.Vec.Iter.{into_iter_items}
use Rattle.text_reports.specs.Reports.{uncovered}
use Rattle.text_reports.proofs.find.uncovered.Given as goal

-- what was yielded is left or covered, and the others follow it
abbrev pub invariant-loop-finding : goal.invariant-loop-finding
invariant-loop-finding l = record {
  added : l.left.items ≡ uncovered l.file l.yielded;
  others : l.fn.found.items ≡ l.yielded ++ into_iter_items l.finding-iterator;
}
