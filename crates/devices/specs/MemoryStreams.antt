-- What is seen of a source and of a sink in memory.
use Rattle.std.specs.Prelude.{◌≡◌, ℕ, List, []}

-- the bytes that are left, how many a call gives at most, the numbers of the calls that fail, how many calls there were
-- and how many failed
pub record SourceInMemory : Type 0 where
  pub left : List ℕ
  pub step : ℕ
  pub fails : List ℕ
  pub calls : ℕ
  pub faults : ℕ

-- before the first call
abbrev pub source_over : List ℕ → ℕ → List ℕ → SourceInMemory
source_over bytes step fails = record { left = bytes; step = step; fails = fails; calls = 0; faults = 0 }

-- what no call changes
pub record SameSource (old new : SourceInMemory) : Type 0 where
  pub step : new.step ≡ old.step
  pub fails : new.fails ≡ old.fails

-- the bytes that were written, how many there may be, the numbers of the calls that fail, how many calls there were and
-- how many failed
pub record SinkInMemory : Type 0 where
  pub held : List ℕ
  pub capacity : ℕ
  pub fails : List ℕ
  pub calls : ℕ
  pub faults : ℕ

-- before the first call
abbrev pub sink_of : ℕ → List ℕ → SinkInMemory
sink_of capacity fails = record { held = []; capacity = capacity; fails = fails; calls = 0; faults = 0 }

-- what no call changes
pub record SameSink (old new : SinkInMemory) : Type 0 where
  pub capacity : new.capacity ≡ old.capacity
  pub fails : new.fails ≡ old.fails
