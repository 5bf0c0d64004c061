-- Why a run stops.
use Rattle.std.specs.Prelude.{◌≡◌, ◌++◌, ℕ, List, Some, codes, slice_get}
use Rattle.fix_output.specs.declared.file.FixedFile.{FixedFile}
use Rattle.fix_run.specs.declared.stop.FixStop.{FixStop}
use Rattle.fix_run.specs.declared.stop.FixStop.TheVariants.{Any, File}
use Rattle.gate_files.specs.source_file.Escaped.{escaped}
use Rattle.fix_words.specs.squawk_run.declared.stop.Stop.{Stop}
use Rattle.fix_words.specs.squawk_run.declared.stop.Stop.TheVariants.{NoMemory}

-- `error: migrations/2.sql: write failed`
abbrev pub failed_line : List ℕ → List ℕ
failed_line name = codes "error: " ++ escaped name ++ codes ": write failed\n"

-- for a reason that every program has, of which this holds
abbrev pub IsAny : (Stop → Type 0) → FixStop → Type 0
IsAny P (Any stop) = P stop
IsAny P (File line) = ⊥

-- the line names the file of this number; or there was no memory for it
abbrev pub IsFailedAt : List FixedFile → ℕ → FixStop → Type 0
IsFailedAt files number (File line) = (file : FixedFile) × (slice_get files number ≡ Some file) × (line.items ≡ failed_line file.name)
IsFailedAt files number (Any stop) = stop ≡ NoMemory
