-- Which words a program takes that reads one text and has an output of its own, and what they choose.
use Rattle.std.specs.Prelude.{List, [], ◌∷◌, Option, None, IsSome, codes, if◌then◌else◌}
use Rattle.squawk_run.specs.ForeignWords.{has_foreign_word}
use Rattle.squawk_words.specs.declared.choices.Choices.{Choices}
use Rattle.squawk_words.specs.Choices.{choices_of}
use Rattle.squawk_words.specs.Words.{Text}

-- the options of the linter's command line that are not taken
abbrev pub foreign_names : List Text
foreign_names = codes "locks" ∷ codes "generate" ∷ []

-- what the words choose, or nothing where the linter refuses them or one of them is such an option
abbrev pub text_choices_of : List Text → Option Choices
text_choices_of words = if has_foreign_word foreign_names words then None else choices_of words

-- the words are taken
abbrev pub AreTaken : List Text → Type 0
AreTaken words = IsSome (text_choices_of words)
