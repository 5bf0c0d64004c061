-- The exit status and the line of each failure.
use Rattle.std.specs.Prelude.{◌≡◌, ℕ, List}
use Rattle.gate_command.specs.declared.failure.Failure.{Failure}
use Rattle.gate_command.specs.declared.failure.Failure.TheVariants.{Stop, Words}
use Rattle.refused_word.specs.squawk_run.declared.stop.Stop.{Stop as AnyStop}
use Rattle.refused_word.specs.squawk_run.Stops as stops

abbrev pub code_of : Failure → ℕ
code_of (Stop stop) = stops.code_of stop
code_of (Words line) = 2

abbrev pub line_of : Failure → List ℕ
line_of (Stop stop) = stops.line_of stop
line_of (Words line) = line.items

-- the failure is this stop
abbrev pub IsStop : AnyStop → Failure → Type 0
IsStop stop failure = failure ≡ Stop stop
