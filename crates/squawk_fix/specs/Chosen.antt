-- The linter that words name.
use Rattle.std.specs.Prelude.{◌≡◌, ℕ, List, Option, Some, option_map}
use Rattle.squawk_run.specs.squawk_words.declared.choices.Choices.{Choices}
use Rattle.law_next_fix.specs.squawk_linter.declared.linter.Linter.{Linter}
use Rattle.squawk_run.specs.TextChoices.{text_choices_of}

-- the linter with what is chosen
abbrev pub linter_by : Choices → Linter
linter_by choices = record { rules = choices.rules; settings = choices.settings }

-- the linter that words name, or nothing where they are refused
abbrev pub linter_of : List (List ℕ) → Option Linter
linter_of words = option_map linter_by (text_choices_of words)

-- the words name a linter, of which this holds
pub record NamesLinter (words : List (List ℕ)) (P : Linter → Type 0) : Type 0 where
  pub linter : Linter
  pub named : linter_of words ≡ Some linter
  pub holds : P linter
