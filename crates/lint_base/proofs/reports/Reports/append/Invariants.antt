use Rattle.std.proofs.Common.{◌≡◌, ◌++◌}
use Rattle.std.specs.Vec.Iter.{into_iter_items}
use Rattle.lint_base.proofs.reports.Reports.append.Given as goal

-- what was yielded was added, and what is left follows it
abbrev pub invariant-loop-v : goal.invariant-loop-v
invariant-loop-v l = record {
  added : l.self ≡ l.fn.self ++ l.yielded;
  left : l.fn.other ≡ l.yielded ++ into_iter_items l.v-iterator;
}
