-- What the words of the line and the configuration choose together.
use Rattle.std.specs.Prelude.{◌≡◌, List, Some, None, ⊤}
use Rattle.check_setup.specs.check_config.declared.config.Config.{Config}
use Rattle.check_setup.specs.check_config.Defaults.{linter_words}
use Rattle.refused_word.specs.code_choice.Choices.{code_choices_of}
use Rattle.refused_word.specs.code_choice.declared.choices.CodeChoices.{CodeChoices}
use Rattle.refused_word.specs.squawk_run.declared.stop.Stop.{Stop}
use Rattle.refused_word.specs.squawk_run.declared.stop.Stop.TheVariants.{BadArguments, NotUtf8, TooLong, ReadFault, WriteFault, NoMemory}
use Rattle.refused_word.specs.squawk_words.Words.{Text}

abbrev pub IsChosenBy : Config → List Text → CodeChoices → Type 0
IsChosenBy config line choices = code_choices_of (linter_words config line) ≡ Some choices

-- why nothing is chosen
abbrev pub IsUnchosen : Config → List Text → Stop → Type 0
IsUnchosen config line BadArguments = code_choices_of (linter_words config line) ≡ None
IsUnchosen config line NotUtf8 = ⊥
IsUnchosen config line TooLong = ⊥
IsUnchosen config line ReadFault = ⊥
IsUnchosen config line WriteFault = ⊥
IsUnchosen config line NoMemory = ⊤
