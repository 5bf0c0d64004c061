use Rattle.std.proofs.Common.{◌≡◌, ◌++◌}
use Rattle.std.specs.Vec.Iter.{into_iter_items}
use Rattle.hazard_ignore.specs.HazardNames.{without_hazard_names}
use Rattle.hazard_ignore.proofs.hazard_names.without_hazard_names.Given as goal

-- what was yielded was kept or left out, and what is left follows it
abbrev pub invariant-loop-v : goal.invariant-loop-v
invariant-loop-v l = record {
  added : l.kept.items ≡ without_hazard_names l.yielded;
  left : l.fn.reports.items ≡ l.yielded ++ into_iter_items l.v-iterator;
}
