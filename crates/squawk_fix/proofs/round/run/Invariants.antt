use Rattle.std.proofs.Common.{length}
use Rattle.std.specs.Prelude.{string_bytes}
use Rattle.squawk_fix.specs.Round.{Answered}
use Rattle.squawk_fix.proofs.Runs.{Progress}
use Rattle.squawk_fix.proofs.round.run.Given as goal

abbrev pub invariant-loop-report : goal.invariant-loop-report
invariant-loop-report l = record {
  progress : (a : Answered l.text l.reports) → Progress l.text l.reports a l.rest (string_bytes l.made) l.applied;
}

abbrev pub decreases-loop-report : goal.decreases-loop-report
decreases-loop-report l = length l.rest
