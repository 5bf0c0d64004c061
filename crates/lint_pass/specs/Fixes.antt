-- Fixes of one edit.
use Rattle.std.specs.Prelude.{ℕ, List, [], ◌∷◌}
use Rattle.lint_base.specs.text_pos.Range.{Range}
use Rattle.lint_base.specs.Edits.{insertion, replacement}
use Rattle.lint_base.specs.Fixes.{FixValue}

-- one text before a place
abbrev pub insertion_fix : List ℕ → List ℕ → ℕ → FixValue
insertion_fix title text at = record { title = title; edits = insertion text at ∷ [] }

-- one text in place of a range
abbrev pub replacement_fix : List ℕ → List ℕ → Range → FixValue
replacement_fix title text range = record { title = title; edits = replacement range text ∷ [] }
