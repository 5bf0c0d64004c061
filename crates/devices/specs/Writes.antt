-- What a write leaves.
use Rattle.std.specs.Prelude.{◌≡◌, ℕ, false, List, bytes_eq, ⊤}
use Rattle.devices.specs.Faults.{Rose}
use Rattle.devices.specs.Contents.{Content, IsBytes}
use Rattle.devices.specs.declared.writer.WriteError.{WriteError}
use Rattle.devices.specs.declared.writer.WriteError.TheVariants as error

-- the file of this name has these bytes, where that is known, and every other name holds what it held
pub record Writes (old new : List ℕ → Content) (name bytes : List ℕ) : Type 0 where
  pub here : IsBytes (new name) bytes
  pub others : (other : List ℕ) → bytes_eq name other ≡ false → new other ≡ old other

-- each error with its cause
abbrev pub IsRefusal : WriteError → ℕ → ℕ → Type 0
IsRefusal error.Fault before now = Rose before now
IsRefusal error.NoMemory before now = ⊤
