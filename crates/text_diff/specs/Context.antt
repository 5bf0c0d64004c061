-- Which lines are shown: those of one text alone, and up to three lines before and after each of them.
use Rattle.std.specs.Prelude.{ℕ, ◌-◌, Bool, ◌||◌, nat_lt, List, [], ◌∷◌, take, if◌then◌else◌}
use Rattle.std.specs.List.{list_any}
use Rattle.text_diff.specs.declared.step.Step.{Step}
use Rattle.text_diff.specs.declared.step.Mark.TheVariants.{Hidden}
use Rattle.text_diff.specs.Script.{is_change}

-- a change is among the next three lines
abbrev pub is_near : List Step → Bool
is_near steps = list_any (λ s. is_change s.mark) (take 3 steps)

-- how many lines more are shown after this one, since they follow a change
abbrev pub left_after : ℕ → Step → ℕ
left_after left s = if is_change s.mark then 3 else left - 1

-- the line as it is, or hidden
abbrev pub seen : ℕ → Step → List Step → Step
seen left s rest =
    if is_change s.mark || nat_lt 0 left || is_near rest then s else record { mark = Hidden; line = s.line }

-- the lines, of which so many at the front follow a change
abbrev pub with_context : ℕ → List Step → List Step
with_context left [] = []
with_context left (s ∷ ss) = seen left s ss ∷ with_context (left_after left s) ss
