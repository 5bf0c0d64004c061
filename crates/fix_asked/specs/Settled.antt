-- The linter that the words and the configuration choose.
use Rattle.std.specs.Prelude.{◌≡◌, ℕ, List, Some, None, ⊤}
use Rattle.config_file.specs.check_config.declared.config.Config.{Config as AnyConfig}
use Rattle.config_file.specs.check_config.Defaults.{linter_words}
use Rattle.fix_run.specs.code_choice.Choices.{code_choices_of}
use Rattle.fix_run.specs.code_choice.declared.choices.CodeChoices.{CodeChoices}
use Rattle.config_file.specs.Loaded.{IsLoaded, IsRefusedFor}
use Rattle.config_file.specs.devices.Contents.{Content}
use Rattle.fix_asked.specs.declared.failure.Failure.{Failure}
use Rattle.fix_asked.specs.declared.failure.Failure.TheVariants.{Stop, Words, Config, File}
use Rattle.fix_asked.specs.declared.settled.Settled.{Settled}
use Rattle.fix_run.specs.fix_words.declared.fault.Fault.{Fault}
use Rattle.fix_run.specs.fix_words.declared.fault.Fault.TheVariants.{Linter}
use Rattle.fix_run.specs.fix_words.declared.request.Request.{Request}
use Rattle.fix_run.specs.fix_words.Faults.{fault_line}
use Rattle.config_file.specs.squawk_run.declared.stop.Stop.TheVariants.{BadArguments, NotUtf8, TooLong, ReadFault, WriteFault, NoMemory}
use Rattle.config_file.specs.squawk_words.Words.{Text}

-- the failure is the line of this fault, or there was no memory for it
abbrev pub IsLineOf : Fault → Failure → Type 0
IsLineOf fault (Words line) = line.items ≡ fault_line fault
IsLineOf fault (Config line) = ⊥
IsLineOf fault (File line) = ⊥
IsLineOf fault (Stop NoMemory) = ⊤
IsLineOf fault (Stop BadArguments) = ⊥
IsLineOf fault (Stop NotUtf8) = ⊥
IsLineOf fault (Stop TooLong) = ⊥
IsLineOf fault (Stop ReadFault) = ⊥
IsLineOf fault (Stop WriteFault) = ⊥

-- words choose this
abbrev pub AreChoicesOf : List Text → CodeChoices → Type 0
AreChoicesOf words choices = code_choices_of words ≡ Some choices

-- words are refused, and the failure is their line; or memory ran out
abbrev pub AreRefused : List Text → Failure → Type 0
AreRefused words (Words line) = (code_choices_of words ≡ None) × (line.items ≡ fault_line (Linter words))
AreRefused words (Config line) = ⊥
AreRefused words (File line) = ⊥
AreRefused words (Stop NoMemory) = ⊤
AreRefused words (Stop BadArguments) = ⊥
AreRefused words (Stop NotUtf8) = ⊥
AreRefused words (Stop TooLong) = ⊥
AreRefused words (Stop ReadFault) = ⊥
AreRefused words (Stop WriteFault) = ⊥

-- the words of the line and the configuration choose this together
abbrev pub IsChosenBy : AnyConfig → List Text → CodeChoices → Type 0
IsChosenBy config line choices = AreChoicesOf (linter_words config line) choices

-- why they choose nothing
abbrev pub IsUnchosen : AnyConfig → List Text → Failure → Type 0
IsUnchosen config line failure = AreRefused (linter_words config line) failure

-- The configuration is the one that is given or found, and it and the words of the request choose this.
pub record IsSettled (content : Text → Content) (request : Request) (settled : Settled) : Type 0 where
  pub loaded : IsLoaded content request.config settled.config
  pub chosen : IsChosenBy settled.config request.linter settled.choices

-- The configuration is taken, and the words are refused beside it: this line is about all of them.
pub record IsRefusedBeside (content : Text → Content) (request : Request) (line : List ℕ) : Type 0 where
  pub config : AnyConfig
  pub loaded : IsLoaded content request.config config
  pub refused : code_choices_of (linter_words config request.linter) ≡ None
  pub told : line ≡ fault_line (Linter (linter_words config request.linter))

-- why there is none
abbrev pub IsUnsettled : (Text → Content) → ℕ → ℕ → Request → Failure → Type 0
IsUnsettled content before now request (Config line) = IsRefusedFor content before now request.config line.items
IsUnsettled content before now request (Words line) = IsRefusedBeside content request line.items
IsUnsettled content before now request (File line) = ⊥
IsUnsettled content before now request (Stop NoMemory) = ⊤
IsUnsettled content before now request (Stop BadArguments) = ⊥
IsUnsettled content before now request (Stop NotUtf8) = ⊥
IsUnsettled content before now request (Stop TooLong) = ⊥
IsUnsettled content before now request (Stop ReadFault) = ⊥
IsUnsettled content before now request (Stop WriteFault) = ⊥
