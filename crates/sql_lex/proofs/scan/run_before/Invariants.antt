use Rattle.std.proofs.Common.{◌≡◌, ℕ, ◌-◌, ◌<◌, ◌≤◌, true}
use Rattle.sql_token.specs.Token.{runs_over}
use Rattle.sql_lex.proofs.scan.run_before.Given as goal

abbrev pub invariant-loop-kind : goal.invariant-loop-kind
invariant-loop-kind l = record { begun : l.from ≤ l.end; within : l.end ≤ l.stop; each : (n : ℕ) → l.from ≤ n → n < l.end → runs_over l.kind l.z n ≡ true }

abbrev pub decreases-loop-kind : goal.decreases-loop-kind
decreases-loop-kind l = l.stop - l.end
