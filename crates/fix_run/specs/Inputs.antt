-- What a run reads.
use Rattle.std.specs.Prelude.{ℕ, Bool, true, false, List, [], ◌∷◌, Option, Some, None, codes}
use Rattle.std.specs.Str.{bytes_eq}
use Rattle.fix_output.specs.devices.Contents.{Content, Unknown, File}
use Rattle.gate_files.specs.squawk_words.Words.{Text}

-- no file is named, or `-` alone
abbrev pub reads_input : List Text → Bool
reads_input [] = true
reads_input (word ∷ []) = bytes_eq word (codes "-")
reads_input (word ∷ other ∷ words) = false

-- what is left to read, as the content of a file
abbrev pub input_content : Option (List ℕ) → Content
input_content None = Unknown
input_content (Some all) = File all

-- what the input is called
abbrev pub input_name : Text
input_name = codes "stdin"

-- What a run reads: what the names hold and what is left of the input, as far as that is known, and how often calls on them failed
-- before the run and after it.
pub record Devices : Type 0 where
  pub content : Text → Content
  pub files_before : ℕ
  pub files_now : ℕ
  pub left : Option (List ℕ)
  pub input_before : ℕ
  pub input_now : ℕ
