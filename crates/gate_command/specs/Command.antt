-- What a run does that the words ask for.
use Rattle.std.specs.Prelude.{◌≡◌, ℕ, Bool, ◌&&◌, true, false, List, [], ◌∷◌, Option, Some, None, ⊤}
use Rattle.std.specs.Io.KnownBytes.{Appends, Keeps}
use Rattle.refused_word.specs.devices.Contents.{Content}
use Rattle.gate_report.specs.migration_gate.Config.{linter_of}
use Rattle.gate_report.specs.squawk_linter.declared.linter.Linter.{Linter as AnyLinter}
use Rattle.refused_word.specs.squawk_run.declared.stop.Stop.TheVariants.{BadArguments, NotUtf8, TooLong, ReadFault, WriteFault, NoMemory}
use Rattle.refused_word.specs.devices.Faults.{Rose}
use Rattle.refused_word.specs.devices.Parts.{AppendsPart}
use Rattle.refused_word.specs.squawk_words.Words.{Text}
use Rattle.gate_command.specs.declared.asked.Asked.{Asked}
use Rattle.gate_command.specs.declared.asked.Asked.TheVariants.{Gate, Help, Refused}
use Rattle.gate_command.specs.declared.failure.Failure.{Failure}
use Rattle.gate_command.specs.declared.failure.Failure.TheVariants.{Stop, Words}
use Rattle.gate_command.specs.declared.fault.Fault.{Fault}
use Rattle.gate_command.specs.declared.fault.Fault.TheVariants.{Beside, Linter, NoFiles}
use Rattle.gate_command.specs.declared.help.TheConstants.{HELP}
use Rattle.gate_command.specs.declared.outcome.Status.{Status}
use Rattle.gate_command.specs.declared.outcome.Status.TheVariants.{Accepted}
use Rattle.gate_command.specs.declared.request.Request.{Request}
use Rattle.gate_command.specs.Answers.{IsAnswerOf}
use Rattle.gate_command.specs.Asked.{asked_of}
use Rattle.gate_command.specs.Faults.{fault_line}

-- ---- words that are refused

-- one session is to run files each of which is a transaction of its own
abbrev pub is_beside : Request → AnyLinter → Bool
is_beside r l = r.one_session && l.settings.assume_in_transaction

abbrev pub unfit_by : List Text → Bool → Option Fault
unfit_by [] beside = Some NoFiles
unfit_by (file ∷ files) true = Some Beside
unfit_by (file ∷ files) false = None

-- why the linter can't be asked: files are to be named
abbrev pub unfit : Request → AnyLinter → Option Fault
unfit r l = unfit_by r.files (is_beside r l)

-- why the request is refused, by the linter that its words name
abbrev pub fault_by : Request → Option AnyLinter → Option Fault
fault_by r None = Some (Linter r.linter)
fault_by r (Some l) = unfit r l

abbrev pub fault_in : Asked → Option Fault
fault_in (Gate r) = fault_by r (linter_of r.linter)
fault_in Help = None
fault_in (Refused fault) = Some fault

-- why words are refused, if they are
abbrev pub fault_of : List Text → Option Fault
fault_of words = fault_in (asked_of words)

-- the failure is the line of this fault, or there was no memory for it
abbrev pub IsLineOf : Fault → Failure → Type 0
IsLineOf fault (Words line) = line.items ≡ fault_line fault
IsLineOf fault (Stop NoMemory) = ⊤
IsLineOf fault (Stop BadArguments) = ⊥
IsLineOf fault (Stop NotUtf8) = ⊥
IsLineOf fault (Stop TooLong) = ⊥
IsLineOf fault (Stop ReadFault) = ⊥
IsLineOf fault (Stop WriteFault) = ⊥

abbrev pub IsNoMemory : Failure → Type 0
IsNoMemory (Words line) = ⊥
IsNoMemory (Stop stop) = stop ≡ NoMemory

-- the words are refused for this fault, or memory ran out
abbrev pub IsRefusedBy : Option Fault → Failure → Type 0
IsRefusedBy (Some fault) failure = IsLineOf fault failure
IsRefusedBy None failure = IsNoMemory failure

-- ---- answers

-- the linter fits the request, and this is the answer for the files
abbrev pub IsAnswered : Request → AnyLinter → (Text → Content) → ℕ → ℕ → Status → List ℕ → Type 0
IsAnswered r l content before now status bytes = (unfit r l ≡ None) × IsAnswerOf r l content before now status bytes

-- the words name a linter that fits, and this is the answer for the files
pub record IsGated (request : Request) (content : Text → Content) (before now : ℕ) (status : Status) (bytes : List ℕ) : Type 0 where
  pub linter : AnyLinter
  pub named : linter_of request.linter ≡ Some linter
  pub told : IsAnswered request linter content before now status bytes

abbrev pub IsAnswerBy : Asked → (Text → Content) → ℕ → ℕ → Status → List ℕ → Type 0
IsAnswerBy (Gate request) content before now status bytes = IsGated request content before now status bytes
IsAnswerBy Help content before now status bytes = (status ≡ Accepted) × (bytes ≡ HELP.now)
IsAnswerBy (Refused fault) content before now status bytes = ⊥

-- what the words ask for was written
pub record HasWritten (words : List Text) (content : Text → Content) (before now : ℕ) (old new : Option (List ℕ)) (status : Status) : Type 0 where
  pub bytes : List ℕ
  pub answer : IsAnswerBy (asked_of words) content before now status bytes
  pub appended : Appends old new bytes

-- the same, but a write failed
pub record HasWrittenPart (words : List Text) (content : Text → Content) (before now : ℕ) (old new : Option (List ℕ)) (faults faults_now : ℕ) : Type 0 where
  pub status : Status
  pub bytes : List ℕ
  pub answer : IsAnswerBy (asked_of words) content before now status bytes
  pub appended : AppendsPart old new bytes
  pub cause : Rose faults faults_now

-- why a run stopped, and what it left
abbrev pub StoppedFor : List Text → (Text → Content) → ℕ → ℕ → Option (List ℕ) → Option (List ℕ) → ℕ → ℕ → Failure → Type 0
StoppedFor words content before now old new faults faults_now (Words line) = IsRefusedBy (fault_of words) (Words line) × Keeps old new
StoppedFor words content before now old new faults faults_now (Stop WriteFault) = HasWrittenPart words content before now old new faults faults_now
StoppedFor words content before now old new faults faults_now (Stop NoMemory) = Keeps old new
StoppedFor words content before now old new faults faults_now (Stop BadArguments) = ⊥
StoppedFor words content before now old new faults faults_now (Stop NotUtf8) = ⊥
StoppedFor words content before now old new faults faults_now (Stop TooLong) = ⊥
StoppedFor words content before now old new faults faults_now (Stop ReadFault) = ⊥
