-- What a run says of its files, and what it wrote.
use Rattle.std.specs.Prelude.{◌≡◌, ℕ, All, Bool, true, false, List, [], ◌∷◌}
use Rattle.std.specs.declared.option.Option.{Option}
use Rattle.std.specs.Io.KnownBytes.{Appends, Keeps}
use Rattle.check_words.specs.declared.request.Request.{Request}
use Rattle.checked_file.specs.declared.checked.Checked.{Checked}
use Rattle.checked_file.specs.declared.status.Status.{Status}
use Rattle.checked_file.specs.Files.{worst}
use Rattle.checked_file.specs.Sound.{IsSound}
use Rattle.file_choice.specs.Choice.{chosen_of}
use Rattle.sql_files.specs.devices.Contents.{Content}
use Rattle.sql_files.specs.Named.{AreNamed}
use Rattle.check_words.specs.squawk_run.declared.stop.Stop.{Stop}
use Rattle.check_words.specs.squawk_run.declared.stop.Stop.TheVariants.{BadArguments, NotUtf8, TooLong, ReadFault, WriteFault, NoMemory}
use Rattle.sql_files.specs.devices.Faults.{Rose}
use Rattle.sql_files.specs.devices.Parts.{AppendsPart}
use Rattle.sql_files.specs.squawk_words.Words.{Text}
use Rattle.check_run.specs.Checks.{Answers, AreChecked, IsChecked}
use Rattle.check_run.specs.Inputs.{input_content, reads_input}

-- ---- the answers

-- the one answer of a run over its input
pub record IsInputAnswer (answers : Answers) (left : Option (List ℕ)) (before now : ℕ) (name : Text) (files : List Checked) : Type 0 where
  pub file : Checked
  pub only : files ≡ file ∷ []
  pub came : IsChecked answers (input_content left) before now name file

-- The answers of a run over the files that words stand for: of those that no pattern leaves out, each once. The names come first; `named` is
-- the count of failures then.
pub record AreFileAnswers (answers : Answers) (content : Text → Content) (before now : ℕ) (patterns words : List Text) (files : List Checked) : Type 0 where
  pub names : List Text
  pub named : ℕ
  pub are_named : AreNamed content before named words names
  pub came : AreChecked answers content named now (chosen_of patterns names) files

-- What a run reads: what the names hold and what is left of the input, as far as that is known, and how often calls on them failed
-- before the run and after it.
pub record Devices : Type 0 where
  pub content : Text → Content
  pub files_before : ℕ
  pub files_now : ℕ
  pub left : Option (List ℕ)
  pub input_before : ℕ
  pub input_now : ℕ

-- the answers of a run, by whether it is over its input
abbrev pub AreAnswersBy : Bool → Answers → Devices → List Text → Request → List Checked → Type 0
AreAnswersBy true answers d patterns request files = IsInputAnswer answers d.left d.input_before d.input_now request.stdin_name files
AreAnswersBy false answers d patterns request files = AreFileAnswers answers d.content d.files_before d.files_now patterns request.files files

-- the answers of a run for what a request asks, where these patterns leave files out
abbrev pub AreAnswers : Answers → Devices → List Text → Request → List Checked → Type 0
AreAnswers answers d patterns request files = AreAnswersBy (reads_input request.files) answers d patterns request files

-- what a filter leaves of such files
pub record AreLeft (Are : List Checked → Type 0) (leaves : List Checked → List Checked → Type 0) (left : List Checked) : Type 0 where
  pub files : List Checked
  pub are : Are files
  pub filtered : leaves files left

-- ---- what was written

-- All that is printed of such files, which are sound, was written, and the status is the greatest of theirs.
pub record HasRun (Are : List Checked → Type 0) (printed : List Checked → List ℕ) (old new : Option (List ℕ)) (status : Status) : Type 0 where
  pub files : List Checked
  pub are : Are files
  pub sound : All IsSound files
  pub worst_of : status ≡ worst files
  pub appended : Appends old new (printed files)

-- why the writing of these bytes stopped: the sink has a front part of them; where memory ran out nothing was written
abbrev pub StopsWriting : Stop → List ℕ → Option (List ℕ) → Option (List ℕ) → ℕ → ℕ → Type 0
StopsWriting BadArguments bytes old new before now = ⊥
StopsWriting NotUtf8 bytes old new before now = ⊥
StopsWriting TooLong bytes old new before now = ⊥
StopsWriting ReadFault bytes old new before now = ⊥
StopsWriting WriteFault bytes old new before now = AppendsPart old new bytes × Rose before now
StopsWriting NoMemory bytes old new before now = Keeps old new

-- such files were there, which are sound, and a front part of what is printed of them was written before a write failed
pub record HasWrittenPart (Are : List Checked → Type 0) (printed : List Checked → List ℕ) (old new : Option (List ℕ)) (before now : ℕ) : Type 0 where
  pub files : List Checked
  pub are : Are files
  pub sound : All IsSound files
  pub part : AppendsPart old new (printed files)
  pub cause : Rose before now

-- why a run stopped
abbrev pub HasStopped : (List Checked → Type 0) → (List Checked → List ℕ) → Option (List ℕ) → Option (List ℕ) → ℕ → ℕ → Stop → Type 0
HasStopped Are printed old new before now BadArguments = ⊥
HasStopped Are printed old new before now NotUtf8 = ⊥
HasStopped Are printed old new before now TooLong = ⊥
HasStopped Are printed old new before now ReadFault = ⊥
HasStopped Are printed old new before now WriteFault = HasWrittenPart Are printed old new before now
HasStopped Are printed old new before now NoMemory = Keeps old new
