-- The input of a run.
use Rattle.std.specs.Prelude.{◌≡◌, ℕ, Bool, true, false, List, [], ◌∷◌, Option, Some, None, codes}
use Rattle.std.specs.Str.{bytes_eq}
use Rattle.sql_files.specs.devices.Contents.{Content, Unknown, File}
use Rattle.checked_file.specs.declared.answer.Answer.{Answer}
use Rattle.checked_file.specs.declared.answer.Answer.TheVariants.{Refused}
use Rattle.checked_file.specs.source_file.declared.refusal.Refusal.TheVariants as refusal
use Rattle.check_words.specs.squawk_run.declared.stop.Stop.{Stop}
use Rattle.check_words.specs.squawk_run.declared.stop.Stop.TheVariants.{BadArguments, NotUtf8, TooLong, ReadFault, WriteFault, NoMemory}
use Rattle.sql_files.specs.squawk_words.Words.{Text}

-- no file is named, or `-` alone
abbrev pub reads_input : List Text → Bool
reads_input [] = true
reads_input (word ∷ []) = bytes_eq word (codes "-")
reads_input (word ∷ other ∷ words) = false

-- what is left to read, as the content of a file
abbrev pub input_content : Option (List ℕ) → Content
input_content None = Unknown
input_content (Some all) = File all

-- the answer of an input that was not read to its end, by why that is
abbrev pub IsStoppedBy : Stop → Answer → Type 0
IsStoppedBy TooLong answer = answer ≡ Refused refusal.TooLong
IsStoppedBy ReadFault answer = answer ≡ Refused refusal.Unreadable
IsStoppedBy NoMemory answer = ⊥
IsStoppedBy BadArguments answer = ⊥
IsStoppedBy NotUtf8 answer = ⊥
IsStoppedBy WriteFault answer = ⊥
