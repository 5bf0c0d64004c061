-- What is taken of a file that has a baseline, and why it is refused.
use Rattle.std.specs.Prelude.{◌≡◌, ℕ, List, ◌++◌, Option, Some, None, codes, ⊤}
use Rattle.std.specs.Str.{IsUtf8}
use Rattle.check_baseline.specs.declared.baseline.Baseline.{Baseline}
use Rattle.check_baseline.specs.Known.{IsBaselineOf, bad_line}
use Rattle.config_file.specs.declared.error.LoadError.{LoadError}
use Rattle.config_file.specs.declared.error.LoadError.TheVariants.{Refused, NoMemory}
use Rattle.config_file.specs.Lines.{fault_line, opening}
use Rattle.check_run.specs.devices.Contents.{Content, IsBytes}
use Rattle.check_run.specs.devices.declared.store.FileError.{FileError}
use Rattle.check_run.specs.devices.Refused.{RefusedFits}
use Rattle.check_run.specs.squawk_words.Words.{Text}

-- ---- texts

abbrev pub IsTextTaken : Text → Option Baseline → Type 0
IsTextTaken text None = ⊥
IsTextTaken text (Some baseline) = IsBaselineOf text baseline

-- `error: known.txt:3:1: not a line of a baseline`
abbrev pub IsBadLine : Text → ℕ → List ℕ → Type 0
IsBadLine name number line = line ≡ fault_line name (record { line = number; column = 1 }) (codes "not a line of a baseline")

-- the message names the first line that is not a line of a baseline
pub record IsTextFaulty (name text : Text) (line : List ℕ) : Type 0 where
  pub number : ℕ
  pub first : bad_line text ≡ Some number
  pub told : IsBadLine name number line

abbrev pub IsRefusedText : Text → Text → LoadError → Type 0
IsRefusedText name text (Refused line) = IsTextFaulty name text line.items
IsRefusedText name text NoMemory = ⊤

-- ---- bytes

pub record AreTaken (bytes : List ℕ) (baseline : Option Baseline) : Type 0 where
  pub utf8 : IsUtf8 bytes
  pub taken : IsTextTaken bytes baseline

-- why bytes are refused
pub data AreFaulty (name : Text) (bytes line : List ℕ) : Type 0 where
  NoText : ¬ (IsUtf8 bytes) → line ≡ opening name ++ codes " not UTF-8\n" → AreFaulty name bytes line
  Faulty : IsUtf8 bytes → IsTextFaulty name bytes line → AreFaulty name bytes line

abbrev pub AreRefused : Text → List ℕ → LoadError → Type 0
AreRefused name bytes (Refused line) = AreFaulty name bytes line.items
AreRefused name bytes NoMemory = ⊤

-- ---- files

-- the file has such bytes
pub record IsTaken (content : Content) (baseline : Option Baseline) : Type 0 where
  pub bytes : List ℕ
  pub are : IsBytes content bytes
  pub taken : AreTaken bytes baseline

-- why a file is refused
pub data IsFaulty (content : Content) (before now : ℕ) (name : Text) (line : List ℕ) : Type 0 where
  Unread : (e : FileError) → RefusedFits e content before now → line ≡ opening name ++ codes " can't be read\n" → IsFaulty content before now name line
  Read : (bytes : List ℕ) → IsBytes content bytes → AreFaulty name bytes line → IsFaulty content before now name line

abbrev pub IsRefusedFile : Content → ℕ → ℕ → Text → LoadError → Type 0
IsRefusedFile content before now name (Refused line) = IsFaulty content before now name line.items
IsRefusedFile content before now name NoMemory = ⊤

-- ---- the baseline of a run

-- it is that of the file that is given, or none
abbrev pub IsLoaded : (Text → Content) → Option Text → Option Baseline → Type 0
IsLoaded content None baseline = baseline ≡ None
IsLoaded content (Some name) baseline = IsTaken (content name) baseline

-- why it is refused
abbrev pub IsRefusedFor : (Text → Content) → ℕ → ℕ → Option Text → List ℕ → Type 0
IsRefusedFor content before now None line = ⊥
IsRefusedFor content before now (Some name) line = IsFaulty (content name) before now name line

abbrev pub IsRefusedLoad : (Text → Content) → ℕ → ℕ → Option Text → LoadError → Type 0
IsRefusedLoad content before now None e = ⊥
IsRefusedLoad content before now (Some name) e = IsRefusedFile (content name) before now name e
