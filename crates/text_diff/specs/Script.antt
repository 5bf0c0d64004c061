-- What becomes of each line where a text becomes another one.
use Rattle.std.specs.Prelude.{ℕ, Bool, true, false, List, [], ◌∷◌, if◌then◌else◌}
use Rattle.std.specs.List.{flat_map}
use Rattle.text_diff.specs.declared.step.Mark.{Mark}
use Rattle.text_diff.specs.declared.step.Mark.TheVariants.{Kept, Hidden, Removed, Added}
use Rattle.text_diff.specs.declared.step.Step.{Step}

abbrev pub is_old : Mark → Bool
is_old Kept = true
is_old Hidden = true
is_old Removed = true
is_old Added = false

abbrev pub is_new : Mark → Bool
is_new Kept = true
is_new Hidden = true
is_new Removed = false
is_new Added = true

abbrev pub is_change : Mark → Bool
is_change Kept = false
is_change Hidden = false
is_change Removed = true
is_change Added = true

abbrev pub is_hidden : Mark → Bool
is_hidden Kept = false
is_hidden Hidden = true
is_hidden Removed = false
is_hidden Added = false

abbrev pub old_part : Step → List (List ℕ)
old_part s = if is_old s.mark then s.line.now ∷ [] else []

abbrev pub new_part : Step → List (List ℕ)
new_part s = if is_new s.mark then s.line.now ∷ [] else []

-- the lines of the old text
abbrev pub old_lines : List Step → List (List ℕ)
old_lines steps = flat_map old_part steps

-- the lines of the new text
abbrev pub new_lines : List Step → List (List ℕ)
new_lines steps = flat_map new_part steps

-- those of the lines that are of the old text, and of the new one, where the same becomes of all
abbrev pub old_some : Mark → List (List ℕ) → List (List ℕ)
old_some mark lines = if is_old mark then lines else []

abbrev pub new_some : Mark → List (List ℕ) → List (List ℕ)
new_some mark lines = if is_new mark then lines else []
