-- The exit status and the line of each failure.
use Rattle.std.specs.Prelude.{◌≡◌, ℕ, List, ⊤}
use Rattle.explain_command.specs.declared.failure.Failure.{Failure}
use Rattle.explain_command.specs.declared.failure.Failure.TheVariants.{Stop, Refused}
use Rattle.refused_word.specs.squawk_run.declared.stop.Stop.{Stop as AnyStop}
use Rattle.refused_word.specs.squawk_run.declared.stop.Stop.TheVariants.{BadArguments, NotUtf8, TooLong, ReadFault, WriteFault, NoMemory}
use Rattle.refused_word.specs.squawk_run.Stops as stops

abbrev pub code_of : Failure → ℕ
code_of (Stop stop) = stops.code_of stop
code_of (Refused line) = 2

abbrev pub line_of : Failure → List ℕ
line_of (Stop stop) = stops.line_of stop
line_of (Refused line) = line.items

-- the failure is this stop
abbrev pub IsStop : AnyStop → Failure → Type 0
IsStop stop failure = failure ≡ Stop stop

-- the failure has a line of which this holds, or there was no memory for it
abbrev pub IsRefusal : (List ℕ → Type 0) → Failure → Type 0
IsRefusal Holds (Refused line) = Holds line.items
IsRefusal Holds (Stop NoMemory) = ⊤
IsRefusal Holds (Stop BadArguments) = ⊥
IsRefusal Holds (Stop NotUtf8) = ⊥
IsRefusal Holds (Stop TooLong) = ⊥
IsRefusal Holds (Stop ReadFault) = ⊥
IsRefusal Holds (Stop WriteFault) = ⊥
