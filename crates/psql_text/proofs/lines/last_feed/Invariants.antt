use Rattle.std.proofs.Common.{◌≡◌, ℕ, ◌-◌, ◌<◌, ◌≤◌, false, length}
use Rattle.psql_text.specs.Lines.{leads_to_end}
use Rattle.psql_text.proofs.lines.last_feed.Given as goal

abbrev pub invariant-loop-at : goal.invariant-loop-at
invariant-loop-at l = record { begun : l.from ≤ l.at; within : l.at ≤ length l.text; none : (n : ℕ) → l.from ≤ n → n < l.at → leads_to_end l.text n ≡ false }

abbrev pub decreases-loop-at : goal.decreases-loop-at
decreases-loop-at l = length l.text - l.at
