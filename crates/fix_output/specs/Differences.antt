-- What is printed of files in which fixes were made.
use Rattle.std.specs.Prelude.{◌≡◌, ℕ, Bool, true, false, not, List, [], ◌∷◌, bytes_eq}
use Rattle.text_diff.specs.Unified.{HasDiff}
use Rattle.fix_output.specs.declared.file.FixedFile.{FixedFile}

-- the text is another one now
abbrev pub is_changed : FixedFile → Bool
is_changed file = not (bytes_eq file.old file.new)

-- the difference of a file that is changed, and nothing of another one
abbrev pub HasDiffIf : Bool → FixedFile → List ℕ → List ℕ → Type 0
HasDiffIf true file before after = HasDiff file.name file.old file.new before after
HasDiffIf false file before after = after ≡ before

-- the bytes are followed by the differences of these files, one after another
abbrev pub HasDiffs : List FixedFile → List ℕ → List ℕ → Type 0
HasDiffs [] before after = after ≡ before
HasDiffs (file ∷ files) before after = (middle : List ℕ) × HasDiffIf (is_changed file) file before middle × HasDiffs files middle after
