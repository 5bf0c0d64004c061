-- The linter that words name.
use Rattle.std.specs.Prelude.{ℕ, List, Option, option_map}
use Rattle.squawk_run.specs.squawk_words.declared.choices.Choices.{Choices}
use Rattle.squawk_linter.specs.declared.linter.Linter.{Linter}
use Rattle.squawk_run.specs.TextChoices.{text_choices_of}

-- the linter with what is chosen
abbrev pub linter_by : Choices → Linter
linter_by choices = record { rules = choices.rules; settings = choices.settings }

-- the linter that words name, or nothing where they are refused
abbrev pub linter_of : List (List ℕ) → Option Linter
linter_of words = option_map linter_by (text_choices_of words)
