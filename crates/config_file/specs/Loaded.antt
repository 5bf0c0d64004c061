-- What is taken of a configuration file, and why it is refused.
use Rattle.std.specs.Prelude.{◌≡◌, ℕ, List, ◌++◌, Option, Some, None, Ok, Err, Result, Vec, codes, ⊤}
use Rattle.std.specs.Str.{IsUtf8}
use Rattle.std.specs.declared.alloc.Global.{Global}
use Rattle.check_config.specs.declared.config.Config.{Config}
use Rattle.check_config.specs.declared.fault.ConfigFault.{ConfigFault}
use Rattle.check_config.specs.Config.{empty}
use Rattle.check_config.specs.Readings.{IsReading}
use Rattle.config_file.specs.declared.error.LoadError.{LoadError}
use Rattle.config_file.specs.declared.error.LoadError.TheVariants.{Refused, NoMemory}
use Rattle.config_file.specs.Found.{IsFound, IsNamed, most_folders}
use Rattle.config_file.specs.Lines.{IsFaultLine, opening}
use Rattle.check_config.specs.devices.Contents.{Content, IsBytes}
use Rattle.check_config.specs.devices.declared.store.FileError.{FileError}
use Rattle.check_config.specs.devices.Refused.{RefusedFits}
use Rattle.check_config.specs.squawk_words.Words.{Text}
use Rattle.report_lines.specs.text_pos.declared.memory.NoMemory.{NoMemory as MemoryError}

-- ---- texts

abbrev pub IsTextTaken : Text → Config → Type 0
IsTextTaken text config = IsReading text (Ok config)

-- a fault of the text is told
pub record IsTextRefused (name text : Text) (line : List ℕ) : Type 0 where
  pub fault : ConfigFault
  pub why : IsReading text (Err fault)
  pub told : IsFaultLine name text fault line

abbrev pub IsRefusedText : Text → Text → LoadError → Type 0
IsRefusedText name text (Refused line) = IsTextRefused name text line.items
IsRefusedText name text NoMemory = ⊤

-- ---- bytes

pub record AreTaken (bytes : List ℕ) (config : Config) : Type 0 where
  pub utf8 : IsUtf8 bytes
  pub taken : IsTextTaken bytes config

-- why bytes are refused
pub data AreFaulty (name : Text) (bytes line : List ℕ) : Type 0 where
  NoText : ¬ (IsUtf8 bytes) → line ≡ opening name ++ codes " not UTF-8\n" → AreFaulty name bytes line
  Faulty : IsUtf8 bytes → IsTextRefused name bytes line → AreFaulty name bytes line

abbrev pub AreRefused : Text → List ℕ → LoadError → Type 0
AreRefused name bytes (Refused line) = AreFaulty name bytes line.items
AreRefused name bytes NoMemory = ⊤

-- ---- files

-- the file has such bytes
pub record IsTaken (content : Content) (config : Config) : Type 0 where
  pub bytes : List ℕ
  pub are : IsBytes content bytes
  pub taken : AreTaken bytes config

-- why a file is refused
pub data IsFaulty (content : Content) (before now : ℕ) (name : Text) (line : List ℕ) : Type 0 where
  Unread : (e : FileError) → RefusedFits e content before now → line ≡ opening name ++ codes " can't be read\n" → IsFaulty content before now name line
  Read : (bytes : List ℕ) → IsBytes content bytes → AreFaulty name bytes line → IsFaulty content before now name line

abbrev pub IsRefusedFile : Content → ℕ → ℕ → Text → LoadError → Type 0
IsRefusedFile content before now name (Refused line) = IsFaulty content before now name line.items
IsRefusedFile content before now name NoMemory = ⊤

-- ---- the configuration of a run

abbrev pub IsLoadedFrom : (Text → Content) → Option Text → Config → Type 0
IsLoadedFrom content None config = config ≡ empty
IsLoadedFrom content (Some name) config = IsTaken (content name) config

-- it is that of the file that is given or found, or the empty one where there is none
pub record IsLoaded (content : Text → Content) (given : Option Text) (config : Config) : Type 0 where
  pub found : Option Text
  pub named : IsNamed content given found
  pub loaded : IsLoadedFrom content found config

-- why it is refused
pub record IsRefusedFor (content : Text → Content) (before now : ℕ) (given : Option Text) (line : List ℕ) : Type 0 where
  pub name : Text
  pub named : IsNamed content given (Some name)
  pub why : IsFaulty (content name) before now name line

abbrev pub IsRefusedLoad : (Text → Content) → ℕ → ℕ → Option Text → LoadError → Type 0
IsRefusedLoad content before now given (Refused line) = IsRefusedFor content before now given line.items
IsRefusedLoad content before now given NoMemory = ⊤

-- ---- the configuration of a folder

-- it is that of the file that is found from the folder on, or the empty one where there is none
pub record IsLoadedIn (content : Text → Content) (folder : Text) (config : Config) : Type 0 where
  pub found : Option Text
  pub named : IsFound content most_folders folder found
  pub loaded : IsLoadedFrom content found config

-- why it is refused
pub record IsRefusedIn (content : Text → Content) (before now : ℕ) (folder : Text) (line : List ℕ) : Type 0 where
  pub name : Text
  pub named : IsFound content most_folders folder (Some name)
  pub why : IsFaulty (content name) before now name line

-- why a folder has none: the file that is found is refused, with its line
abbrev pub IsRefusedFolder : (Text → Content) → ℕ → ℕ → Text → LoadError → Type 0
IsRefusedFolder content before now folder (Refused line) = IsRefusedIn content before now folder line.items
IsRefusedFolder content before now folder NoMemory = ⊤

-- the error with a line, if there was memory for it
abbrev pub IsRefusal : Result (Vec ℕ Global) MemoryError → LoadError → Type 0
IsRefusal (Ok line) e = e ≡ Refused line
IsRefusal (Err failed) e = e ≡ NoMemory
