-- The linter that the words and the configuration of a folder choose.
use Rattle.std.specs.Prelude.{◌≡◌, ◌⊎◌, ℕ, List, [], ◌++◌, ◌-◌, Option, Some, None, codes, length, take}
use Rattle.std.specs.Str.{IsUtf8}
use Rattle.config_file.specs.check_config.declared.config.Config.{Config}
use Rattle.config_file.specs.check_config.Config.{empty}
use Rattle.config_file.specs.check_config.Defaults.{linter_words}
use Rattle.refused_word.specs.code_choice.Choices.{code_choices_of}
use Rattle.refused_word.specs.code_choice.declared.choices.CodeChoices.{CodeChoices}
use Rattle.config_file.specs.Loaded.{IsLoadedIn, IsRefusedIn}
use Rattle.refused_word.specs.devices.Contents.{Content}
use Rattle.lsp_linter.specs.declared.linting.Linting.{Linting}
use Rattle.refused_word.specs.Messages.{words_line}
use Rattle.server_command.specs.declared.outcome.Refusal.{Refusal}
use Rattle.server_command.specs.declared.outcome.Refusal.TheVariants as refusal
use Rattle.server_command.specs.Outcomes.{refusal_line}
use Rattle.refused_word.specs.squawk_words.Words.{Text}

-- what finds reports with what is chosen
abbrev pub linting_by : CodeChoices → Linting
linting_by chosen = record {
  linter = record { linter = record { rules = chosen.choices.rules; settings = chosen.choices.settings }; hazards = chosen.hazards };
}

-- the words of the line and the configuration choose this together
abbrev pub IsChosenBy : Config → List Text → CodeChoices → Type 0
IsChosenBy config line choices = code_choices_of (linter_words config line) ≡ Some choices

-- they are refused together, and this line names what is
abbrev pub IsUnchosen : Config → List Text → List ℕ → Type 0
IsUnchosen config line said = (code_choices_of (linter_words config line) ≡ None) × (said ≡ words_line (linter_words config line))

-- ---- by the words alone

-- The words of the line choose this linter, where no configuration is known.
pub record IsChosenAlone (line : List Text) (linting : Linting) : Type 0 where
  pub choices : CodeChoices
  pub chosen : IsChosenBy empty line choices
  pub is : linting ≡ linting_by choices

-- ---- by the words and the configuration of a folder

-- the folder in which a configuration is looked for first: the root, or else the working directory
abbrev pub folder_of : Option Text → Text
folder_of None = []
folder_of (Some root) = root ++ codes "/"

-- The configuration that is found from the folder on and the words of the line choose this linter.
pub record IsSettled (content : Text → Content) (folder : Text) (line : List Text) (linting : Linting) : Type 0 where
  pub config : Config
  pub loaded : IsLoadedIn content folder config
  pub choices : CodeChoices
  pub chosen : IsChosenBy config line choices
  pub is : linting ≡ linting_by choices

-- the configuration is taken, and the words are refused beside it, which this line says
pub record IsRefusedBeside (content : Text → Content) (folder : Text) (line : List Text) (said : List ℕ) : Type 0 where
  pub config : Config
  pub loaded : IsLoadedIn content folder config
  pub refused : IsUnchosen config line said

-- why it is refused
abbrev pub IsRefusedFor : (Text → Content) → ℕ → ℕ → Text → List Text → Refusal → Type 0
IsRefusedFor content before now folder line (refusal.Config why) = IsRefusedIn content before now folder why.items
IsRefusedFor content before now folder line (refusal.Words said) = IsRefusedBeside content folder line said.items

-- ---- what is said of it

-- a line without its line feed
abbrev pub short : List ℕ → List ℕ
short line = take (length line - 1) line

-- the line as a text, or these words where its bytes are none
abbrev pub IsText : List ℕ → List ℕ → Type 0
IsText bytes said = (IsUtf8 bytes × (said ≡ bytes)) ⊎ ((¬ (IsUtf8 bytes)) × (said ≡ codes "error: the configuration is refused"))

-- what is said of a refusal
abbrev pub IsSaidOf : Refusal → List ℕ → Type 0
IsSaidOf why said = IsText (short (refusal_line why)) said
