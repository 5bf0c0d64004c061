-- Why reading stopped before the end of the input.
use Rattle.std.specs.Prelude.{ℕ, ◌^◌, ◌≤◌, List, length, ⊤}
use Rattle.std.specs.declared.option.Option.{Option}
use Rattle.std.specs.Io.KnownBytes.{Consumes}
use Rattle.devices.specs.Faults.{Rose}
use Rattle.devices.specs.declared.whole.ReadError.{ReadError}
use Rattle.devices.specs.declared.whole.ReadError.TheVariants.{TooLong, Fault, NoMemory}

-- bytes were read, and there were at least n
pub record Took (old new : Option (List ℕ)) (n : ℕ) : Type 0 where
  pub bytes : List ℕ
  pub taken : Consumes old new bytes
  pub many : n ≤ length bytes

-- each error with its cause
abbrev pub StopFits : ReadError → Option (List ℕ) → Option (List ℕ) → ℕ → ℕ → Type 0
StopFits TooLong old new before now = Took old new (2 ^ 32)
StopFits Fault old new before now = Rose before now
StopFits NoMemory old new before now = ⊤
