-- What a run does.
use Rattle.std.specs.Prelude.{◌≡◌, ℕ, Bool, true, false, List, [], ◌∷◌}
use Rattle.std.specs.declared.option.Option.{Option}
use Rattle.std.specs.Io.KnownBytes.{Keeps}
use Rattle.gate_files.specs.checked_file.declared.status.Status.{Status}
use Rattle.gate_files.specs.file_choice.Choice.{chosen_of}
use Rattle.fix_output.specs.devices.Contents.{Content, KeepsContents}
use Rattle.fix_output.specs.declared.file.FixedFile.{FixedFile}
use Rattle.fix_run.specs.declared.stop.FixStop.{FixStop}
use Rattle.fix_run.specs.declared.stop.FixStop.TheVariants.{Any}
use Rattle.fix_run.specs.Giving.{IsCut, IsGiven, Sinks, lines_of, status_of, delivery_of}
use Rattle.fix_run.specs.Inputs.{Devices, input_content, input_name, reads_input}
use Rattle.fix_run.specs.Outcomes.{Answers, HaveOutcomes}
use Rattle.fix_words.specs.declared.request.Request.{Request}
use Rattle.gate_files.specs.declared.order.Order.TheVariants.{Given}
use Rattle.gate_files.specs.declared.read.Unread.{Unread}
use Rattle.gate_files.specs.Named.{AreFilesOf}
use Rattle.fix_words.specs.squawk_run.declared.stop.Stop.TheVariants.{NoMemory}
use Rattle.gate_files.specs.squawk_words.Words.{Text}

-- ---- what comes of the files

-- what came of the input
abbrev pub InputOutcomes : Answers → Option (List ℕ) → ℕ → ℕ → List FixedFile → List Unread → Type 0
InputOutcomes answers left before now fixed unread = HaveOutcomes answers (λ name. input_content left) before now (input_name ∷ []) fixed unread

-- What came of the files that words stand for: of those that no pattern leaves out, each once. The names come first; `named` is the count of
-- failures then.
pub record FilesOutcomes (answers : Answers) (content : Text → Content) (before now : ℕ) (patterns words : List Text) (fixed : List FixedFile) (unread : List Unread) : Type 0 where
  pub names : List Text
  pub named : ℕ
  pub are_named : AreFilesOf content before named Given words names
  pub come : HaveOutcomes answers content named now (chosen_of patterns names) fixed unread

-- what came of the input or of files
abbrev pub AllOutcomesBy : Bool → Answers → Devices → List Text → List Text → List FixedFile → List Unread → Type 0
AllOutcomesBy true answers d patterns words fixed unread = InputOutcomes answers d.left d.input_before d.input_now fixed unread
AllOutcomesBy false answers d patterns words fixed unread = FilesOutcomes answers d.content d.files_before d.files_now patterns words fixed unread

-- what came of what these words name
abbrev pub AllOutcomes : Answers → Devices → List Text → List Text → List FixedFile → List Unread → Type 0
AllOutcomes answers d patterns words fixed unread = AllOutcomesBy (reads_input words) answers d patterns words fixed unread

-- ---- the run

-- Something is made of these files and nothing of the others; what is made was printed or written, and this is the status, and these are
-- the lines: the notes about fixes that are not made, and what is said about the others.
pub record HasFixed (answers : Answers) (patterns : List Text) (request : Request) (d : Devices) (old new : Sinks) (status : Status) (lines : List ℕ) : Type 0 where
  pub fixed : List FixedFile
  pub unread : List Unread
  pub came : AllOutcomes answers d patterns request.files fixed unread
  pub given : IsGiven (delivery_of request) fixed old new
  pub status_is : status ≡ status_of request.write fixed unread
  pub lines_are : lines ≡ lines_of fixed unread

-- Why a run stopped: memory ran out, and nothing was printed or written; or it stopped while something was.
pub data HasStopped (answers : Answers) (patterns : List Text) (request : Request) (d : Devices) (old new : Sinks) (stop : FixStop) : Type 0 where
  Early : stop ≡ Any NoMemory → Keeps old.held new.held → KeepsContents old.written new.written → HasStopped answers patterns request d old new stop
  Late : (fixed : List FixedFile) → (unread : List Unread) → AllOutcomes answers d patterns request.files fixed unread → IsCut (delivery_of request) fixed old new stop
      → HasStopped answers patterns request d old new stop
