-- Why a file or a folder could not be read.
use Rattle.std.specs.Prelude.{ℕ, ◌^◌, ◌≤◌, length, ⊤}
use Rattle.devices.specs.Faults.{Rose}
use Rattle.devices.specs.declared.store.FileError.{FileError}
use Rattle.devices.specs.declared.store.FileError.TheVariants as error
use Rattle.devices.specs.Contents.{Content, Unknown, Missing, File, Folder}

-- there may be no such file
abbrev pub MayMiss : Content → Type 0
MayMiss Unknown = ⊤
MayMiss Missing = ⊤
MayMiss (File all) = ⊥
MayMiss (Folder names) = ⊥

-- it may have 2^32 bytes or more
abbrev pub MayBeLong : Content → Type 0
MayBeLong Unknown = ⊤
MayBeLong Missing = ⊥
MayBeLong (File all) = 2 ^ 32 ≤ length all
MayBeLong (Folder names) = ⊥

-- each error with its cause
abbrev pub RefusedFits : FileError → Content → ℕ → ℕ → Type 0
RefusedFits error.Missing content before now = MayMiss content
RefusedFits error.Fault content before now = Rose before now
RefusedFits error.TooLong content before now = MayBeLong content
RefusedFits error.NoMemory content before now = ⊤
