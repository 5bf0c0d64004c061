-- The configuration that words name.
use Rattle.std.specs.Prelude.{ℕ, List, Option, option_map}
use Rattle.squawk_run.specs.squawk_words.declared.choices.Choices.{Choices}
use Rattle.squawk_run.specs.squawk_words.Choices.{choices_of}
use Rattle.squawk_cli.specs.declared.config.Config.{Config}

-- the linter with what is chosen
abbrev pub config_by : Choices → Config
config_by choices = record {
  linter = record { rules = choices.rules; settings = choices.settings };
  locks = choices.locks;
  generate = choices.generate;
}

-- the configuration that words name, or nothing where they are refused
abbrev pub config_of : List (List ℕ) → Option Config
config_of words = option_map config_by (choices_of words)
