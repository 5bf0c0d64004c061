-- What is said on the error sink: lines, and a note before them or after them.
use Rattle.std.specs.Prelude.{◌≡◌, ◌≤◌, ◌⊎◌, ◌++◌, ◌&&◌, ℕ, Bool, List, not, Option, Some, None, if◌then◌else◌}
use Rattle.std.specs.Io.KnownBytes.{Appends}
use Rattle.config_file.specs.devices.Faults.{Rose}
use Rattle.config_file.specs.devices.Parts.{AppendsPart}
use Rattle.config_file.specs.squawk_run.declared.stop.Stop.TheVariants.{NoMemory}
use Rattle.fix_asked.specs.declared.failure.Failure.{Failure}
use Rattle.fix_asked.specs.declared.failure.Failure.TheVariants.{Stop}
use Rattle.fix_asked.specs.declared.note.Note.{Note}
use Rattle.fix_asked.specs.declared.note.Note.TheVariants.{NewAlone, SafeAlone}
use Rattle.fix_asked.specs.declared.note.TheConstants.{NEW_ALONE, SAFE_ALONE}
use Rattle.fix_asked.specs.Failures.{line_of}
use Rattle.fix_run.specs.Inputs.{reads_input}
use Rattle.fix_run.specs.fix_words.declared.asked.Asked.{Asked}
use Rattle.fix_run.specs.fix_words.declared.asked.Asked.TheVariants.{Fix, Help, Refused}
use Rattle.fix_run.specs.fix_words.declared.request.Request.{Request}

-- `--write` is there, and files are named
abbrev pub writes_files : Request → Bool
writes_files request = request.write && not (reads_input request.files)

-- With `--unsafe`, where files are to be written, it is said that this is for new ones alone; without it, that only safe fixes are made.
abbrev pub note_for : Request → Option Note
note_for request = if not request.with_unsafe then Some SafeAlone else if writes_files request then Some NewAlone else None

-- the note of a run, if it has one
abbrev pub note_of : Asked → Option Note
note_of (Fix request) = note_for request
note_of Help = None
note_of (Refused fault) = None

-- lines were said, as far as the sink took them
abbrev pub HasSaid : List ℕ → Option (List ℕ) → Option (List ℕ) → ℕ → ℕ → Type 0
HasSaid lines old new before now = AppendsPart old new lines × (¬ (Rose before now) → Appends old new lines)

-- First these lines were said, as far as the sink took them, and then those. In between the sink held this, and so often had it failed.
pub record HasSaidBoth (first second : List ℕ) (old new : Option (List ℕ)) (before now : ℕ) : Type 0 where
  pub between : Option (List ℕ)
  pub faults : ℕ
  pub one : HasSaid first old between before faults
  pub other : HasSaid second between new faults now
  pub whole : ¬ (Rose before now) → Appends old new (first ++ second)

-- These lines were said of what was done: behind the note on what is written, or before the one on safe fixes.
abbrev pub HasSaidBy : Option Note → List ℕ → Option (List ℕ) → Option (List ℕ) → ℕ → ℕ → Type 0
HasSaidBy (Some NewAlone) lines old new before now = HasSaidBoth NEW_ALONE.now lines old new before now
HasSaidBy (Some SafeAlone) lines old new before now = HasSaidBoth lines SAFE_ALONE.now old new before now
HasSaidBy None lines old new before now = HasSaid lines old new before now

-- The line of a failure was said, and the note on what is written before it.
abbrev pub HasFailedBy : Option Note → List ℕ → Option (List ℕ) → Option (List ℕ) → ℕ → ℕ → Type 0
HasFailedBy (Some NewAlone) line old new before now = HasSaidBoth NEW_ALONE.now line old new before now
HasFailedBy (Some SafeAlone) line old new before now = HasSaid line old new before now
HasFailedBy None line old new before now = HasSaid line old new before now

-- these lines were said in a run that did what the words asked for
abbrev pub HasSaidFor : Asked → List ℕ → Option (List ℕ) → Option (List ℕ) → ℕ → ℕ → Type 0
HasSaidFor asked lines old new before now = HasSaidBy (note_of asked) lines old new before now

-- The line of a failure was said; where memory runs out before it is known what the words ask for, it is said alone.
abbrev pub HasSaidFailure : Asked → Failure → Option (List ℕ) → Option (List ℕ) → ℕ → ℕ → Type 0
HasSaidFailure asked failure old new before now =
    HasFailedBy (note_of asked) (line_of failure) old new before now ⊎ ((failure ≡ Stop NoMemory) × HasSaid (line_of failure) old new before now)

-- ---- how it came

-- the note on what is written was said, or nothing happened
abbrev pub HasBegun : Option Note → Option (List ℕ) → Option (List ℕ) → ℕ → ℕ → Type 0
HasBegun (Some NewAlone) old new before now = HasSaid NEW_ALONE.now old new before now × (before ≤ now)
HasBegun (Some SafeAlone) old new before now = (new ≡ old) × (now ≡ before)
HasBegun None old new before now = (new ≡ old) × (now ≡ before)

-- the note on safe fixes was said, or nothing happened
abbrev pub HasEnded : Option Note → Option (List ℕ) → Option (List ℕ) → ℕ → ℕ → Type 0
HasEnded (Some SafeAlone) old new before now = HasSaid SAFE_ALONE.now old new before now × (before ≤ now)
HasEnded (Some NewAlone) old new before now = (new ≡ old) × (now ≡ before)
HasEnded None old new before now = (new ≡ old) × (now ≡ before)
