use Rattle.std.proofs.Common.{◌≡◌, ◌≤◌, ◌++◌, drop, false}
use Rattle.text_diff.specs.Unified.{hunks_from}
use Rattle.text_diff.proofs.print.push_hunks.Given as goal

abbrev pub invariant-loop-i : goal.invariant-loop-i
invariant-loop-i l = record {
  old_few : l.before.old ≤ l.i;
  new_few : l.before.new ≤ l.i;
  printed : l.to.items ++ hunks_from l.inside l.before.old l.before.new (drop l.i l.steps) ≡ l.initial.to.items ++ hunks_from false 0 0 l.steps;
}
