-- Which words the gate takes, and what they choose.
use Rattle.std.specs.Prelude.{Bool, ◌∷◌, [], List, Option, None, IsSome, codes, if◌then◌else◌}
use Rattle.squawk_run.specs.squawk_words.declared.choices.Choices.{Choices}
use Rattle.squawk_run.specs.squawk_words.Choices.{choices_of}
use Rattle.squawk_run.specs.squawk_words.Words.{Text}
use Rattle.squawk_run.specs.ForeignWords.{has_foreign_word}

-- the options of the linter's command line that the gate does not take
abbrev pub foreign : List Text
foreign = codes "only" ∷ codes "exclude" ∷ codes "generate" ∷ codes "locks" ∷ []

abbrev pub has_foreign : List Text → Bool
has_foreign words = has_foreign_word foreign words

-- what the words choose, or nothing where the linter refuses them or one is such an option
abbrev pub gate_choices_of : List Text → Option Choices
gate_choices_of words = if has_foreign words then None else choices_of words

-- the gate takes the words
abbrev pub AreTaken : List Text → Type 0
AreTaken words = IsSome (gate_choices_of words)
