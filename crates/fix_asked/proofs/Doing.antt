-- From the parts of a run to what it does that words ask for.
use Rattle.std.proofs.Common.{◌≤◌, inl, inr, refl, ℕ, List, Option}
use Rattle.std.proofs.KnownBytes.{Keeps-refl}
use Rattle.fix_run.specs.checked_file.declared.status.Status.{Status}
use Rattle.config_file.specs.devices.Contents.{Content, KeepsContents}
use Rattle.fix_asked.specs.Command.{AnswersBy, HasFailed, HasFailedFor, HasFixedFor, HasStoppedFor, IsNothing}
use Rattle.fix_asked.specs.declared.failure.Failure.{Failure}
use Rattle.fix_asked.specs.declared.failure.Failure.TheVariants.{Stop, Words, Config, File}
use Rattle.fix_asked.specs.declared.settled.Settled.{Settled}
use Rattle.fix_asked.specs.Settled.{IsSettled, IsUnsettled}
use Rattle.fix_run.proofs.Moved.{fixed_moved, stopped_moved}
use Rattle.fix_asked.specs.Failures.{failure_by}
use Rattle.fix_run.specs.declared.stop.FixStop.{FixStop}
use Rattle.fix_run.specs.declared.stop.FixStop.TheVariants as fix_stop
use Rattle.fix_run.specs.Giving.{Sinks}
use Rattle.fix_run.specs.Inputs.{Devices}
use Rattle.fix_run.specs.Runs.{HasFixed, HasStopped}
use Rattle.fix_run.specs.fix_words.declared.asked.Asked.{Asked}
use Rattle.fix_run.specs.fix_words.declared.asked.Asked.TheVariants.{Fix, Help, Refused}
use Rattle.fix_run.specs.fix_words.declared.request.Request.{Request}
use Rattle.config_file.specs.squawk_run.declared.stop.Stop.TheVariants.{BadArguments, NotUtf8, TooLong, ReadFault, WriteFault, NoMemory}
use Rattle.config_file.specs.squawk_words.Words.{Text}

by_stop : {by : AnswersBy} {request : Request} {d : Devices} {old new : Sinks} (stop : FixStop) → HasStoppedFor by request d old new stop → HasFailedFor by request d old new (failure_by stop)
by_stop (fix_stop.Any stop) h = inr h
by_stop (fix_stop.File line) h = h

module _ (by : AnswersBy) (content now : Text → Content) (before first last : ℕ) (left : Option (List ℕ)) (input input_now : ℕ) (kept : KeepsContents content now) (later : before ≤ first)
    (request : Request) (old new : Sinks) (settled : Settled) (chosen : IsSettled content request settled) where
  -- what was done after the configuration was read
  pub fixed_for : (status : Status) (lines : List ℕ)
      → HasFixed (by settled.choices.choices request.with_unsafe) settled.config.excluded_paths request
      (record { content = now; files_before = first; files_now = last; left = left; input_before = input; input_now = input_now }) old new status lines
      → HasFixedFor by request (record { content = content; files_before = before; files_now = last; left = left; input_before = input; input_now = input_now }) old new status lines
  fixed_for status lines h = record {
    settled = settled;
    chosen = chosen;
    fixed = fixed_moved (by settled.choices.choices request.with_unsafe) content now before first last left input input_now settled.config.excluded_paths kept later request old new status lines h;
  }

  -- the same where it stopped
  pub stopped_for : (stop : FixStop)
      → HasStopped (by settled.choices.choices request.with_unsafe) settled.config.excluded_paths request
      (record { content = now; files_before = first; files_now = last; left = left; input_before = input; input_now = input_now }) old new stop
      → HasFailedFor by request (record { content = content; files_before = before; files_now = last; left = left; input_before = input; input_now = input_now }) old new (failure_by stop)
  stopped_for stop h = by_stop stop (record {
    settled = settled;
    chosen = chosen;
    stopped = stopped_moved (by settled.choices.choices request.with_unsafe) content now before first last left input input_now settled.config.excluded_paths kept later request old new stop h;
  })

-- nothing was chosen
pub unsettled_for : (by : AnswersBy) (request : Request) (d : Devices) (old new : Sinks) (failure : Failure) → IsUnsettled d.content d.files_before d.files_now request failure → IsNothing old new
    → HasFailedFor by request d old new failure
unsettled_for by request d old new (Words line) h nothing = (h, nothing)
unsettled_for by request d old new (Config line) h nothing = (h, nothing)
unsettled_for by request d old new (File line) h nothing = absurd h
unsettled_for by request d old new (Stop NoMemory) h nothing = inl (refl, nothing)
unsettled_for by request d old new (Stop BadArguments) h nothing = absurd h
unsettled_for by request d old new (Stop NotUtf8) h nothing = absurd h
unsettled_for by request d old new (Stop TooLong) h nothing = absurd h
unsettled_for by request d old new (Stop ReadFault) h nothing = absurd h
unsettled_for by request d old new (Stop WriteFault) h nothing = absurd h

-- where nothing was done
pub nothing_same : (sinks : Sinks) → IsNothing sinks sinks
nothing_same sinks = (Keeps-refl sinks.held, λ name. refl)

-- memory ran out before the words were known
pub no_words : (by : AnswersBy) (asked : Asked) (d : Devices) (sinks : Sinks) → HasFailed by asked d sinks sinks (Stop NoMemory)
no_words by (Fix request) d sinks = inl (refl, nothing_same sinks)
no_words by Help d sinks = (Keeps-refl sinks.held, λ name. refl)
no_words by (Refused fault) d sinks = (tt, nothing_same sinks)
