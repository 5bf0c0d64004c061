-- What is printed or written, and the status.
use Rattle.std.specs.Prelude.{◌&&◌, ◌≡◌, ℕ, Bool, not, List, [], ◌∷◌, ◌++◌, codes, flat_map, fold, if◌then◌else◌}
use Rattle.std.specs.declared.option.Option.{Option}
use Rattle.std.specs.Io.KnownBytes.{Appends, Keeps}
use Rattle.std.specs.List.{list_any}
use Rattle.gate_files.specs.checked_file.declared.status.Status.{Status}
use Rattle.gate_files.specs.checked_file.declared.status.Status.TheVariants.{Clean, Found}
use Rattle.gate_files.specs.checked_file.Answers.{refused_status}
use Rattle.gate_files.specs.checked_file.Statuses.{worse}
use Rattle.fix_output.specs.devices.Contents.{Content, KeepsContents}
use Rattle.fix_output.specs.declared.file.FixedFile.{FixedFile}
use Rattle.fix_output.specs.Differences.{HasDiffs, is_changed}
use Rattle.fix_output.specs.Writing.{AreWritten, IsWrittenUpTo, SomeAreWritten}
use Rattle.fix_run.specs.declared.give.Delivery.{Delivery}
use Rattle.fix_run.specs.declared.give.Delivery.TheVariants.{Print, Input, Files}
use Rattle.fix_run.specs.declared.stop.FixStop.{FixStop}
use Rattle.fix_run.specs.declared.stop.FixStop.TheVariants.{Any, File}
use Rattle.fix_run.specs.Inputs.{reads_input}
use Rattle.fix_run.specs.Stops.{IsAny, failed_line}
use Rattle.fix_words.specs.declared.request.Request.{Request}
use Rattle.fix_output.specs.lint_base.Rules as rules
use Rattle.gate_files.specs.source_file.File.{FileValue}
use Rattle.gate_files.specs.declared.read.Unread.{Unread}
use Rattle.fix_output.specs.other_fix.declared.other.OtherFix.{OtherFix}
use Rattle.fix_words.specs.report_lines.Concise.{concise, place_part}
use Rattle.fix_words.specs.report_lines.declared.concise.Order.TheVariants.{RuleFirst}
use Rattle.gate_files.specs.source_file.declared.level.Level.TheVariants.{Error}
use Rattle.gate_files.specs.source_file.Refusals.{message_of, name_of, place_of}
use Rattle.fix_words.specs.squawk_run.declared.stop.Stop.{Stop}
use Rattle.fix_words.specs.squawk_run.declared.stop.Stop.TheVariants.{BadArguments, NotUtf8, TooLong, ReadFault, WriteFault, NoMemory}
use Rattle.fix_output.specs.devices.Faults.{Rose}
use Rattle.fix_output.specs.devices.Parts.{AppendsPart}
use Rattle.gate_files.specs.squawk_words.Words.{Text}

-- ---- the notes about fixes that are not made

-- `note[prefer-identity]: the fix of prefer-bigint-over-int changes the same part and comes first`
abbrev pub note_part : OtherFix → List ℕ
note_part other =
    codes "note[" ++ rules.name_of other.rule ++ codes "]: the fix of " ++ rules.name_of other.first ++ codes " changes the same part and comes first\n"

-- the same behind its place, as in `migrations/2.sql:1:20: `
abbrev pub note_of : FileValue → OtherFix → List ℕ
note_of file other = place_part file other.at ++ note_part other

-- those of a file, by the text that was read
abbrev pub notes_of : FixedFile → List ℕ
notes_of file = flat_map (note_of (record { name = file.name; text = file.old })) file.others.items

-- ---- the lines about files of which nothing is made

-- `migrations/2.sql:3:1: error[syntax-error]: the statement that begins here can't be read`
abbrev pub line_of : Unread → List ℕ
line_of u = concise RuleFirst (record { name = u.name; text = u.front }) (place_of u.refusal) Error (name_of u.refusal) (message_of u.refusal)

-- ---- both

-- first the notes about all files of which something is made, in their order, and then the lines about the others, in theirs
abbrev pub lines_of : List FixedFile → List Unread → List ℕ
lines_of files all = flat_map notes_of files ++ flat_map line_of all

-- ---- the status

-- the greatest status of files of which nothing is made
abbrev pub unread_status : List Unread → Status
unread_status all = fold (λ s u. worse s (refused_status u.refusal)) Clean all

-- something is found where a file is changed and only its difference is printed
abbrev pub fixed_status : Bool → List FixedFile → Status
fixed_status is_written files = if not is_written && list_any is_changed files then Found else Clean

-- the greatest status of all files, by whether what is made is written
abbrev pub status_of : Bool → List FixedFile → List Unread → Status
status_of is_written files all = worse (fixed_status is_written files) (unread_status all)

-- ---- what is given

-- with `--write` the text that is made of the input is printed, and files are written
abbrev pub delivery_of : Request → Delivery
delivery_of request = if not request.write then Print else if reads_input request.files then Input else Files

-- the text that is made of the first of these, which the input is
abbrev pub first_text : List FixedFile → Text
first_text [] = []
first_text (file ∷ files) = file.new

-- the differences of these files, one after another
abbrev pub AreDiffs : List FixedFile → List ℕ → Type 0
AreDiffs files bytes = HasDiffs files [] bytes

-- what a sink holds and what the names of a writer hold, as far as that is known, and how often calls on them failed
pub record Sinks : Type 0 where
  pub held : Option (List ℕ)
  pub faults : ℕ
  pub written : Text → Content
  pub write_faults : ℕ

-- ---- files are printed

-- why these bytes were not written: a write failed, and a front part of them was; or memory ran out, and nothing was
abbrev pub StopsWriting : Stop → List ℕ → Option (List ℕ) → Option (List ℕ) → ℕ → ℕ → Type 0
StopsWriting BadArguments bytes old new before now = ⊥
StopsWriting NotUtf8 bytes old new before now = ⊥
StopsWriting TooLong bytes old new before now = ⊥
StopsWriting ReadFault bytes old new before now = ⊥
StopsWriting WriteFault bytes old new before now = AppendsPart old new bytes × Rose before now
StopsWriting NoMemory bytes old new before now = Keeps old new

-- the differences of these files are such bytes
abbrev pub HasDiffsThat : List FixedFile → (List ℕ → Type 0) → Type 0
HasDiffsThat files P = (bytes : List ℕ) × AreDiffs files bytes × P bytes

-- why the differences were not printed: a write failed, and a front part of them was; or memory ran out, and nothing was
abbrev pub StopsDiffs : Stop → List FixedFile → Option (List ℕ) → Option (List ℕ) → ℕ → ℕ → Type 0
StopsDiffs BadArguments files old new before now = ⊥
StopsDiffs NotUtf8 files old new before now = ⊥
StopsDiffs TooLong files old new before now = ⊥
StopsDiffs ReadFault files old new before now = ⊥
StopsDiffs WriteFault files old new before now = HasDiffsThat files (λ bytes. AppendsPart old new bytes × Rose before now)
StopsDiffs NoMemory files old new before now = Keeps old new

-- ---- files are written

-- the line names this one of the files, which was not written; those before it were
pub record IsFailedFile (files : List FixedFile) (line : List ℕ) (old new : Text → Content) : Type 0 where
  pub number : ℕ
  pub file : FixedFile
  pub up_to : IsWrittenUpTo files number file old new
  pub line_is : line ≡ failed_line file.name

-- why not all files were written: the write of one failed, or memory ran out, and the first of them were
abbrev pub StopsFiles : FixStop → List FixedFile → (Text → Content) → (Text → Content) → ℕ → ℕ → Type 0
StopsFiles (File line) files old new before now = IsFailedFile files line.items old new × Rose before now
StopsFiles (Any BadArguments) files old new before now = ⊥
StopsFiles (Any NotUtf8) files old new before now = ⊥
StopsFiles (Any TooLong) files old new before now = ⊥
StopsFiles (Any ReadFault) files old new before now = ⊥
StopsFiles (Any WriteFault) files old new before now = ⊥
StopsFiles (Any NoMemory) files old new before now = SomeAreWritten files old new

-- ---- both

-- What became of these files. Where something is printed no file is written, and the other way round.
abbrev pub IsGiven : Delivery → List FixedFile → Sinks → Sinks → Type 0
IsGiven Print files old new = HasDiffsThat files (Appends old.held new.held) × KeepsContents old.written new.written
IsGiven Input files old new = Appends old.held new.held (first_text files) × KeepsContents old.written new.written
IsGiven Files files old new = AreWritten files old.written new.written × Keeps old.held new.held

-- the same where it stopped
abbrev pub IsCut : Delivery → List FixedFile → Sinks → Sinks → FixStop → Type 0
IsCut Print files old new stop = IsAny (λ s. StopsDiffs s files old.held new.held old.faults new.faults) stop × KeepsContents old.written new.written
IsCut Input files old new stop = IsAny (λ s. StopsWriting s (first_text files) old.held new.held old.faults new.faults) stop × KeepsContents old.written new.written
IsCut Files files old new stop = StopsFiles stop files old.written new.written old.write_faults new.write_faults × Keeps old.held new.held
