-- What a run does that the words ask for.
use Rattle.std.specs.Prelude.{◌≡◌, ℕ, List, Option, Some}
use Rattle.std.specs.Io.KnownBytes.{Appends, Keeps}
use Rattle.refused_word.specs.squawk_run.declared.stop.Stop.TheVariants.{BadArguments, NotUtf8, TooLong, ReadFault, WriteFault, NoMemory}
use Rattle.refused_word.specs.devices.Faults.{Rose}
use Rattle.refused_word.specs.devices.Parts.{AppendsPart}
use Rattle.refused_word.specs.squawk_words.Words.{Text}
use Rattle.explain_command.specs.declared.failure.Failure.{Failure}
use Rattle.explain_command.specs.declared.failure.Failure.TheVariants.{Stop, Refused}
use Rattle.explain_command.specs.Words.{IsRefusedFor, text_of}

-- the text that the words ask for was written
pub record HasWritten (words : List Text) (old new : Option (List ℕ)) : Type 0 where
  pub text : List ℕ
  pub asked : text_of words ≡ Some text
  pub appended : Appends old new text

-- the same, but a write failed
pub record HasWrittenPart (words : List Text) (old new : Option (List ℕ)) (before now : ℕ) : Type 0 where
  pub text : List ℕ
  pub asked : text_of words ≡ Some text
  pub appended : AppendsPart old new text
  pub cause : Rose before now

-- why a run stopped, and what it left
abbrev pub StoppedFor : List Text → Option (List ℕ) → Option (List ℕ) → ℕ → ℕ → Failure → Type 0
StoppedFor words old new before now (Stop WriteFault) = HasWrittenPart words old new before now
StoppedFor words old new before now (Refused line) = IsRefusedFor words line.items × Keeps old new
StoppedFor words old new before now (Stop NoMemory) = Keeps old new
StoppedFor words old new before now (Stop BadArguments) = ⊥
StoppedFor words old new before now (Stop NotUtf8) = ⊥
StoppedFor words old new before now (Stop TooLong) = ⊥
StoppedFor words old new before now (Stop ReadFault) = ⊥
