-- The exit status and the line of each failure.
use Rattle.std.specs.Prelude.{◌≡◌, ℕ, List, ⊤}
use Rattle.check_command.specs.declared.failure.Failure.{Failure}
use Rattle.check_command.specs.declared.failure.Failure.TheVariants.{Stop, Refused}
use Rattle.check_print.specs.check_words.declared.fault.WordFault.{WordFault}
use Rattle.check_setup.specs.config_file.declared.error.LoadError.{LoadError}
use Rattle.check_setup.specs.config_file.declared.error.LoadError.TheVariants as load
use Rattle.refused_word.specs.Messages as word
use Rattle.refused_word.specs.squawk_run.declared.stop.Stop.{Stop as AnyStop}
use Rattle.refused_word.specs.squawk_run.declared.stop.Stop.TheVariants as stop
use Rattle.refused_word.specs.squawk_run.Stops as stops

abbrev pub code_of : Failure → ℕ
code_of (Stop stop) = stops.code_of stop
code_of (Refused line) = 2

abbrev pub line_of : Failure → List ℕ
line_of (Stop stop) = stops.line_of stop
line_of (Refused line) = line.items

-- the failure of a run that can't read what it needs before its files
abbrev pub failure_of : LoadError → Failure
failure_of (load.Refused line) = Refused line
failure_of load.NoMemory = Stop stop.NoMemory

-- the failure is this stop
abbrev pub IsStop : AnyStop → Failure → Type 0
IsStop stop failure = failure ≡ Stop stop

-- the failure of a run of which a word is refused
abbrev pub IsWordFailure : WordFault → Failure → Type 0
IsWordFailure fault (Refused line) = line.items ≡ word.line_of fault
IsWordFailure fault (Stop stop.NoMemory) = ⊤
IsWordFailure fault (Stop stop.BadArguments) = ⊥
IsWordFailure fault (Stop stop.NotUtf8) = ⊥
IsWordFailure fault (Stop stop.TooLong) = ⊥
IsWordFailure fault (Stop stop.ReadFault) = ⊥
IsWordFailure fault (Stop stop.WriteFault) = ⊥
