-- What a run does that the words ask for.
use Rattle.std.specs.Prelude.{◌≡◌, ◌⊎◌, ℕ, Bool, List, []}
use Rattle.std.specs.declared.option.Option.{Option}
use Rattle.std.specs.Io.KnownBytes.{Appends, Keeps}
use Rattle.fix_run.specs.checked_file.declared.status.Status.{Status}
use Rattle.fix_run.specs.checked_file.declared.status.Status.TheVariants.{Clean}
use Rattle.config_file.specs.Loaded.{IsRefusedFor}
use Rattle.config_file.specs.devices.Contents.{KeepsContents}
use Rattle.fix_asked.specs.declared.failure.Failure.{Failure}
use Rattle.fix_asked.specs.declared.failure.Failure.TheVariants.{Stop, Words, Config, File}
use Rattle.fix_asked.specs.declared.settled.Settled.{Settled}
use Rattle.fix_asked.specs.Settled.{IsLineOf, IsRefusedBeside, IsSettled}
use Rattle.fix_run.specs.declared.stop.FixStop.{FixStop}
use Rattle.fix_run.specs.declared.stop.FixStop.TheVariants as fix_stop
use Rattle.fix_run.specs.Giving.{Sinks, StopsWriting}
use Rattle.fix_run.specs.Inputs.{Devices}
use Rattle.fix_run.specs.Outcomes.{Answers}
use Rattle.fix_run.specs.Runs.{HasFixed, HasStopped}
use Rattle.fix_run.specs.fix_words.declared.asked.Asked.{Asked}
use Rattle.fix_run.specs.fix_words.declared.asked.Asked.TheVariants.{Fix, Help, Refused}
use Rattle.fix_run.specs.fix_words.declared.help.TheConstants.{HELP}
use Rattle.fix_run.specs.fix_words.declared.request.Request.{Request}
use Rattle.config_file.specs.squawk_run.declared.stop.Stop.TheVariants.{NoMemory}
use Rattle.config_file.specs.squawk_words.declared.choices.Choices.{Choices}

-- what comes of which text, by the rules and settings that are chosen and by whether unsafe fixes are made too
abbrev pub AnswersBy : Type 1
AnswersBy = Choices → Bool → Answers

-- nothing was printed, and no file was written
abbrev pub IsNothing : Sinks → Sinks → Type 0
IsNothing old new = Keeps old.held new.held × KeepsContents old.written new.written

-- ---- files, or the input

-- The words and the configuration choose rules and settings, and what comes of each text is by those.
pub record HasFixedFor (by : AnswersBy) (request : Request) (d : Devices) (old new : Sinks) (status : Status) (lines : List ℕ) : Type 0 where
  pub settled : Settled
  pub chosen : IsSettled d.content request settled
  pub fixed : HasFixed (by settled.choices.choices request.with_unsafe) settled.config.excluded_paths request d old new status lines

-- the same of a run that stopped
pub record HasStoppedFor (by : AnswersBy) (request : Request) (d : Devices) (old new : Sinks) (stop : FixStop) : Type 0 where
  pub settled : Settled
  pub chosen : IsSettled d.content request settled
  pub stopped : HasStopped (by settled.choices.choices request.with_unsafe) settled.config.excluded_paths request d old new stop

-- Why a run made nothing, or stopped: the words or the configuration are refused; memory ran out; or it stopped while it fixed.
abbrev pub HasFailedFor : AnswersBy → Request → Devices → Sinks → Sinks → Failure → Type 0
HasFailedFor by request d old new (Words line) = IsRefusedBeside d.content request line.items × IsNothing old new
HasFailedFor by request d old new (Config line) = IsRefusedFor d.content d.files_before d.files_now request.config line.items × IsNothing old new
HasFailedFor by request d old new (Stop stop) = ((stop ≡ NoMemory) × IsNothing old new) ⊎ HasStoppedFor by request d old new (fix_stop.Any stop)
HasFailedFor by request d old new (File line) = HasStoppedFor by request d old new (fix_stop.File line)

-- ---- the help

-- the help was written
abbrev pub HasHelped : Option (List ℕ) → Option (List ℕ) → Status → List ℕ → Type 0
HasHelped old new status lines = (status ≡ Clean) × (lines ≡ []) × Appends old new HELP.now

-- a front part of it, before a write failed
abbrev pub HasNotHelped : Option (List ℕ) → Option (List ℕ) → ℕ → ℕ → Failure → Type 0
HasNotHelped old new before now (Words line) = ⊥
HasNotHelped old new before now (Config line) = ⊥
HasNotHelped old new before now (File line) = ⊥
HasNotHelped old new before now (Stop stop) = StopsWriting stop HELP.now old new before now

-- ---- all

-- what was done that the words ask for, and the lines that are to be said
abbrev pub HasDone : AnswersBy → Asked → Devices → Sinks → Sinks → Status → List ℕ → Type 0
HasDone by (Fix request) d old new status lines = HasFixedFor by request d old new status lines
HasDone by Help d old new status lines = HasHelped old.held new.held status lines × KeepsContents old.written new.written
HasDone by (Refused fault) d old new status lines = ⊥

-- why it was not done, and what is left
abbrev pub HasFailed : AnswersBy → Asked → Devices → Sinks → Sinks → Failure → Type 0
HasFailed by (Fix request) d old new failure = HasFailedFor by request d old new failure
HasFailed by Help d old new failure = HasNotHelped old.held new.held old.faults new.faults failure × KeepsContents old.written new.written
HasFailed by (Refused fault) d old new failure = IsLineOf fault failure × IsNothing old new

-- what the words ask for was done, and its lines were said
pub record HasRun (by : AnswersBy) (asked : Asked) (d : Devices) (old new : Sinks) (Said : List ℕ → Type 0) (status : Status) : Type 0 where
  pub lines : List ℕ
  pub done : HasDone by asked d old new status lines
  pub said : Said lines
