-- What is read of a text, as far as the text says it.
use Rattle.std.specs.Prelude.{◌≡◌, ◌≤◌, Option, Some, None, Result, Ok, Err, length, ⊤}
use Rattle.squawk_run.specs.squawk_words.Words.{Text}
use Rattle.toml.specs.Data.{Members}
use Rattle.toml.specs.Errors.{IsMemory, span_start}
use Rattle.toml.specs.Parse.{parse_document}
use Rattle.toml.specs.declared.de.error.Error.{Error}
use Rattle.check_config.specs.declared.config.Config.{Config}
use Rattle.check_config.specs.declared.fault.ConfigError.{ConfigError}
use Rattle.check_config.specs.declared.fault.ConfigError.TheVariants as error
use Rattle.check_config.specs.declared.fault.ConfigFault.{ConfigFault}
use Rattle.check_config.specs.declared.fault.ConfigFault.TheVariants as fault
use Rattle.check_config.specs.Config.{config_in}

-- the fault is what would be read, or memory ran out
abbrev pub IsRefused : {X : Type 0} → Result X ConfigFault → ConfigError → Type 0
IsRefused read (error.Refused f) = read ≡ Err f
IsRefused read error.NoMemory = ⊤

-- a text is not TOML: this says so, of a place of the text
abbrev pub IsNoToml : Text → Result Config ConfigFault → Type 0
IsNoToml text (Ok config) = ⊥
IsNoToml text (Err (fault.NotToml at message)) = at ≤ length text
IsNoToml text (Err (fault.UnknownKey key)) = ⊥
IsNoToml text (Err (fault.UnknownRule name)) = ⊥
IsNoToml text (Err (fault.BadValue key)) = ⊥

abbrev pub IsReadingBy : Text → Option Members → Result Config ConfigFault → Type 0
IsReadingBy text None read = IsNoToml text read
IsReadingBy text (Some table) read = read ≡ config_in table

-- this is read of a text: what its table says, where it is TOML
abbrev pub IsReading : Text → Result Config ConfigFault → Type 0
IsReading text read = IsReadingBy text (parse_document text) read

abbrev pub IsRefusedReading : Text → ConfigError → Type 0
IsRefusedReading text (error.Refused f) = IsReading text (Err f)
IsRefusedReading text error.NoMemory = ⊤

-- what is made of an error of the reader of TOML
abbrev pub IsTomlFault : Error → ConfigFault → Type 0
IsTomlFault e (fault.NotToml at message) = (at ≡ span_start e) × ¬ (IsMemory e)
IsTomlFault e (fault.UnknownKey key) = ⊥
IsTomlFault e (fault.UnknownRule name) = ⊥
IsTomlFault e (fault.BadValue key) = ⊥

abbrev pub IsTomlError : Error → ConfigError → Type 0
IsTomlError e (error.Refused f) = IsTomlFault e f
IsTomlError e error.NoMemory = ⊤
