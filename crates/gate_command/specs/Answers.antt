-- The status of a run over files, and what is written of them.
use Rattle.std.specs.Prelude.{◌≡◌, ℕ, List, map}
use Rattle.gate_report.specs.squawk_linter.declared.linter.Linter.{Linter}
use Rattle.refused_word.specs.squawk_words.Words.{Text}
use Rattle.refused_word.specs.devices.Contents.{Content}
use Rattle.gate_files.specs.declared.read.Reading.{Reading}
use Rattle.gate_files.specs.declared.read.Reading.TheVariants.{Files, Unread as NotRead}
use Rattle.gate_files.specs.declared.read.Unread.{Unread}
use Rattle.gate_files.specs.Named.{AreFilesOf}
use Rattle.gate_files.specs.Read.{IsReading}
use Rattle.gate_report.specs.declared.cause.Cause.TheVariants as cause
use Rattle.gate_report.specs.Report.{printed_refused}
use Rattle.gate_command.specs.declared.outcome.Outcome.{Outcome}
use Rattle.gate_command.specs.declared.outcome.Status.{Status}
use Rattle.gate_command.specs.declared.request.Request.{Request}
use Rattle.gate_command.specs.Outcomes.{IsOutcome, printed_outcome}
use Rattle.gate_command.specs.Statuses.{status_by, status_of}

-- this is the status and what is written of files with these names and texts
pub record IsToldOf (request : Request) (linter : Linter) (names ts : List Text) (status : Status) (bytes : List ℕ) : Type 0 where
  pub outcome : Outcome
  pub came : IsOutcome request.one_session linter ts outcome
  pub status_is : status ≡ status_of outcome
  pub bytes_are : bytes ≡ printed_outcome request.works names ts outcome

-- the same of the first file that was not read
pub record IsToldUnread (file : Unread) (status : Status) (bytes : List ℕ) : Type 0 where
  pub status_is : status ≡ status_by file.refusal
  pub bytes_are : bytes ≡ printed_refused (record { name = file.name; text = file.front }) (cause.Unread file.refusal)

abbrev pub IsToldBy : Reading → Request → Linter → Status → List ℕ → Type 0
IsToldBy (Files files) request linter status bytes = IsToldOf request linter (map (λ f. f.name) files.items) (map (λ f. f.text) files.items) status bytes
IsToldBy (NotRead file) request linter status bytes = IsToldUnread file status bytes

-- The files that the words name, in the order that they ask for, and what was read of them; this is the status and what is written of that.
-- The names come first; `named` is the count of failures then.
pub record IsAnswerOf (request : Request) (linter : Linter) (content : Text → Content) (before now : ℕ) (status : Status) (bytes : List ℕ) : Type 0 where
  pub names : List Text
  pub reading : Reading
  pub named : ℕ
  pub are_named : AreFilesOf content before named request.order request.files names
  pub read : IsReading content named now names reading
  pub told : IsToldBy reading request linter status bytes
