use Rattle.std.proofs.Common.{◌≡◌, ◌≤◌, ◌+◌, drop, length}
use Rattle.text_diff.specs.Script.{new_lines, old_lines}
use Rattle.text_diff.specs.Unified.{run}
use Rattle.text_diff.proofs.print.hunk_counts.Given as goal

abbrev pub invariant-loop-step : goal.invariant-loop-step
invariant-loop-step l = record {
  old_few : l.counts.old ≤ l.step-index;
  new_few : l.counts.new ≤ l.step-index;
  old_side : l.counts.old + length (old_lines (run (drop l.step-index l.steps))) ≡ length (old_lines (run l.steps));
  new_side : l.counts.new + length (new_lines (run (drop l.step-index l.steps))) ≡ length (new_lines (run l.steps));
}
