-- What each end says of a run.
use Rattle.std.specs.Prelude.{◌≡◌, ℕ, ◌^◌, List, ⊤}
use Rattle.std.specs.declared.option.Option.{Option}
use Rattle.std.specs.Io.KnownBytes.{Keeps, IsAtEnd}
use Rattle.devices.specs.Faults.{Rose}
use Rattle.devices.specs.Reading.{Took}
use Rattle.squawk_run.specs.declared.stop.Stop.{Stop}
use Rattle.squawk_run.specs.declared.stop.Stop.TheVariants.{BadArguments, TooLong, ReadFault, WriteFault, NoMemory}

-- The answer was written; or the input, which was all read, is none that the program answers for; or the run was stopped.
pub data End : Type 0 where
  Finished : End
  Refused : End
  Stopped : Stop → End

-- what the words are, where this says that the program takes them
abbrev pub WordsFor : End → Type 0 → Type 0
WordsFor (Stopped BadArguments) taken = ¬ taken
WordsFor (Stopped NoMemory) taken = ⊤
WordsFor _ taken = taken

-- what was read: mostly everything, before words that are refused nothing, and of an input that is too long 2^32 bytes
abbrev pub ReadFor : End → Option (List ℕ) → Option (List ℕ) → Type 0
ReadFor (Stopped BadArguments) old new = new ≡ old
ReadFor (Stopped TooLong) old new = Took old new (2 ^ 32)
ReadFor (Stopped ReadFault) old new = ⊤
ReadFor (Stopped NoMemory) old new = ⊤
ReadFor _ old new = IsAtEnd new

-- nothing was written but where the answer was
abbrev pub KeptFor : End → Option (List ℕ) → Option (List ℕ) → Type 0
KeptFor Finished old new = ⊤
KeptFor (Stopped WriteFault) old new = ⊤
KeptFor _ old new = Keeps old new

-- a failed read shows in the count of the source
abbrev pub SourceCause : End → ℕ → ℕ → Type 0
SourceCause (Stopped ReadFault) before now = Rose before now
SourceCause _ before now = ⊤

-- a failed write shows in the count of the sink
abbrev pub SinkCause : End → ℕ → ℕ → Type 0
SinkCause (Stopped WriteFault) before now = Rose before now
SinkCause _ before now = ⊤

-- the answer was written, or memory ran out
abbrev pub IsDone : End → Type 0
IsDone Finished = ⊤
IsDone (Stopped NoMemory) = ⊤
IsDone _ = ⊥
