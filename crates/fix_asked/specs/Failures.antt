-- The exit status and the line of each failure.
use Rattle.std.specs.Prelude.{ℕ, List}
use Rattle.config_file.specs.declared.error.LoadError.{LoadError}
use Rattle.config_file.specs.declared.error.LoadError.TheVariants as load
use Rattle.fix_asked.specs.declared.failure.Failure.{Failure}
use Rattle.fix_asked.specs.declared.failure.Failure.TheVariants.{Stop, Words, Config, File}
use Rattle.fix_run.specs.declared.stop.FixStop.{FixStop}
use Rattle.fix_run.specs.declared.stop.FixStop.TheVariants as fix_stop
use Rattle.config_file.specs.squawk_run.declared.stop.Stop.TheVariants as stop
use Rattle.config_file.specs.squawk_run.Stops as stops

-- the exit status of a failure
abbrev pub code_of : Failure → ℕ
code_of (Stop why) = stops.code_of why
code_of (Words line) = 2
code_of (Config line) = 2
code_of (File line) = 6

-- its line on the error sink
abbrev pub line_of : Failure → List ℕ
line_of (Stop why) = stops.line_of why
line_of (Words line) = line.items
line_of (Config line) = line.items
line_of (File line) = line.items

-- the failure of a run that stops
abbrev pub failure_by : FixStop → Failure
failure_by (fix_stop.Any why) = Stop why
failure_by (fix_stop.File line) = File line

-- the failure of a run that has no configuration
abbrev pub failure_of : LoadError → Failure
failure_of (load.Refused line) = Config line
failure_of load.NoMemory = Stop stop.NoMemory
