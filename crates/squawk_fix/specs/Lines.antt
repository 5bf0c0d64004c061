-- The line of each status, and what an error sink gets of it.
use Rattle.std.specs.Prelude.{ℕ, List, Option, codes}
use Rattle.std.specs.Io.KnownBytes.{Appends}
use Rattle.squawk_run.specs.devices.Parts.{AppendsPart}
use Rattle.squawk_run.specs.declared.status.Status.{Status}
use Rattle.squawk_run.specs.declared.status.Status.TheVariants.{Clean, Found}
use Rattle.squawk_run.specs.Lines.{numbered}
use Rattle.squawk_run.specs.Statuses as statuses

-- how many fixes were made
abbrev pub fixed_line : ℕ → List ℕ
fixed_line applied = numbered (codes "fixed: ") applied

-- the line of a status, where so many fixes were made
abbrev pub line_of : Status → ℕ → List ℕ
line_of Clean applied = fixed_line applied
line_of Found applied = fixed_line applied
line_of status applied = statuses.line_of status

-- A sink that told the bytes `old` tells `new`: it got the beginning of this line, and all of it if no write failed.
pub record GetsLine (line : List ℕ) (old new : Option (List ℕ)) (failed : Type 0) : Type 0 where
  pub part : AppendsPart old new line
  pub whole : ¬ failed → Appends old new line

-- It got so of the line of a status, where so many fixes were made.
abbrev pub Says : Status → Option (List ℕ) → Option (List ℕ) → Type 0 → ℕ → Type 0
Says status old new failed applied = GetsLine (line_of status applied) old new failed
