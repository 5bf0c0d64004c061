-- The unified format (GNU diffutils manual, "Detailed Description of Unified Format").
use Rattle.std.specs.Prelude.{◌≡◌, ℕ, ◌+◌, ◌==◌, Bool, false, not, List, [], ◌∷◌, ◌++◌, length, codes, decimal, nat_eq, if◌then◌else◌}
use Rattle.std.specs.List.{ends_with}
use Rattle.source_file.specs.Escaped.{escaped}
use Rattle.text_diff.specs.declared.step.Mark.{Mark}
use Rattle.text_diff.specs.declared.step.Mark.TheVariants.{Kept, Hidden, Removed, Added}
use Rattle.text_diff.specs.declared.step.Step.{Step}
use Rattle.text_diff.specs.Context.{with_context}
use Rattle.text_diff.specs.Lines.{lines_of}
use Rattle.text_diff.specs.Script.{is_hidden, new_lines, new_part, old_lines, old_part}

-- the names of the texts, as they are shown
abbrev pub heading : List ℕ → List ℕ
heading name = codes "--- " ++ escaped name ++ codes "\n+++ " ++ escaped name ++ codes "\n"

-- ---- a line

abbrev pub sign : Mark → List ℕ
sign Kept = codes " "
sign Hidden = []
sign Removed = codes "-"
sign Added = codes "+"

-- what follows a line: nothing, or that its line feed is missing
abbrev pub ending : List ℕ → List ℕ
ending line = if ends_with nat_eq line (codes "\n") then [] else codes "\n\\ No newline at end of file\n"

abbrev pub line_bytes : Step → List ℕ
line_bytes s = sign s.mark ++ s.line.now ++ ending s.line.now

-- ---- a hunk: lines that are shown, one after another

-- the lines up to the next one that is not shown
abbrev pub run : List Step → List Step
run [] = []
run (s ∷ ss) = if is_hidden s.mark then [] else s ∷ run ss

-- Where a hunk begins, by how many lines of the text are before it and how many are in it. A hunk without lines begins at the line
-- before it, and a count of 1 is left out.
abbrev pub range : ℕ → ℕ → List ℕ
range before count =
    if count == 0 then decimal before ++ codes ",0"
    else if count == 1 then decimal (before + 1)
    else decimal (before + 1) ++ codes "," ++ decimal count

abbrev pub header : ℕ → ℕ → List Step → List ℕ
header old new hunk =
    codes "@@ -" ++ range old (length (old_lines hunk)) ++ codes " +" ++ range new (length (new_lines hunk)) ++ codes " @@\n"

-- the header, where the line before is not shown
abbrev pub opening : Bool → ℕ → ℕ → List Step → List ℕ
opening inside old new steps = if inside then [] else header old new (run steps)

-- the lines with the headers of their hunks; `inside` says that the line before is shown, and so many lines of each text are before
abbrev pub hunks_from : Bool → ℕ → ℕ → List Step → List ℕ
hunks_from inside old new [] = []
hunks_from inside old new (s ∷ ss) =
    (if is_hidden s.mark then [] else opening inside old new (s ∷ ss) ++ line_bytes s)
    ++ hunks_from (not (is_hidden s.mark)) (old + length (old_part s)) (new + length (new_part s)) ss

unfoldable pub printed : List ℕ → List Step → List ℕ
printed name steps = heading name ++ hunks_from false 0 0 steps

-- The bytes are followed by a difference of the texts: each line of the old one is kept or removed, each of the new one kept or added, in order.
pub record HasDiff (name old new before after : List ℕ) : Type 0 where
  pub script : List Step
  pub old_side : old_lines script ≡ lines_of old
  pub new_side : new_lines script ≡ lines_of new
  pub printed_form : after ≡ before ++ printed name (with_context 0 script)
