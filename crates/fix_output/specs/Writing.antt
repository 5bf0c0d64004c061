-- What is written of files in which fixes were made.
use Rattle.std.specs.Prelude.{◌≡◌, ℕ, Bool, true, false, List, [], ◌∷◌, slice_get, take, Some}
use Rattle.devices.specs.Contents.{Content, KeepsContents}
use Rattle.devices.specs.declared.writer.WriteError.{WriteError}
use Rattle.devices.specs.declared.writer.WriteError.TheVariants as error
use Rattle.devices.specs.Writes.{Writes}
use Rattle.fix_output.specs.declared.file.FixedFile.{FixedFile}
use Rattle.fix_output.specs.declared.write.WriteStop.{WriteStop}
use Rattle.fix_output.specs.declared.write.WriteStop.TheVariants.{Fault, NoMemory}
use Rattle.fix_output.specs.Differences.{is_changed}
use Rattle.devices.specs.Faults.{Rose}

-- a file that is changed has its new text, and nothing is written of another one
abbrev pub IsWrittenIf : Bool → FixedFile → (List ℕ → Content) → (List ℕ → Content) → Type 0
IsWrittenIf true file old new = Writes old new file.name file.new
IsWrittenIf false file old new = KeepsContents old new

-- these files are written, one after another
abbrev pub AreWritten : List FixedFile → (List ℕ → Content) → (List ℕ → Content) → Type 0
AreWritten [] old new = KeepsContents old new
AreWritten (file ∷ files) old new = (middle : List ℕ → Content) × IsWrittenIf (is_changed file) file old middle × AreWritten files middle new

-- So are the first of them, and no other.
abbrev pub SomeAreWritten : List FixedFile → (List ℕ → Content) → (List ℕ → Content) → Type 0
SomeAreWritten files old new = (n : ℕ) × AreWritten (take n files) old new

-- This one of them is changed and is not written. Those before it are, and no other.
pub record IsWrittenUpTo (files : List FixedFile) (number : ℕ) (file : FixedFile) (old new : List ℕ → Content) : Type 0 where
  pub at : slice_get files number ≡ Some file
  pub changed : is_changed file ≡ true
  pub before : AreWritten (take number files) old new

-- a write failed, that of the file of this number; or memory ran out
abbrev pub HasStopped : WriteStop → List FixedFile → (List ℕ → Content) → (List ℕ → Content) → ℕ → ℕ → Type 0
HasStopped (Fault number) files old new before now = ((file : FixedFile) × IsWrittenUpTo files number file old new) × Rose before now
HasStopped NoMemory files old new before now = SomeAreWritten files old new

-- why the file of this number was not written
abbrev pub stop_at : WriteError → ℕ → WriteStop
stop_at error.Fault number = Fault number
stop_at error.NoMemory number = NoMemory
