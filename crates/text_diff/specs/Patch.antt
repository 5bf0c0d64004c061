-- What a patch makes of the old text, by what is shown of a difference alone.
use Rattle.std.specs.Prelude.{◌≡◌, ℕ, ◌+◌, ◌-◌, List, [], ◌∷◌, ◌++◌, length, take, drop, if◌then◌else◌}
use Rattle.text_diff.specs.declared.step.Step.{Step}
use Rattle.text_diff.specs.Context.{with_context}
use Rattle.text_diff.specs.Script.{is_hidden, new_lines, new_part, old_lines, old_part}

-- the lines that are shown, each with how many lines of the old text are before it; so many are before all
abbrev pub shown_from : ℕ → List Step → List (ℕ × Step)
shown_from old [] = []
shown_from old (s ∷ ss) =
    (if is_hidden s.mark then [] else (old, s) ∷ []) ++ shown_from (old + length (old_part s)) ss

-- Lines of the old text, of which the first is line `at`, counted from 0: they stay up to the next line that is shown, that line is
-- kept, removed or added, and so on.
abbrev pub patched : ℕ → List (ℕ × Step) → List (List ℕ) → List (List ℕ)
patched at [] lines = lines
patched at (p ∷ ps) lines =
    take (p.0 - at) lines ++ new_part p.1 ++ patched (p.0 + length (old_part p.1)) ps (drop (p.0 - at + length (old_part p.1)) lines)

-- What is shown of a difference makes the new text of the old one.
abbrev pub PatchGivesNew : Type 0
PatchGivesNew =
    (script : List Step) → patched 0 (shown_from 0 (with_context 0 script)) (old_lines script) ≡ new_lines script
