-- What is seen of files that were written in memory.
use Rattle.std.specs.Prelude.{ℕ, List, [], ◌∷◌, bytes_eq, if◌then◌else◌}
use Rattle.devices.specs.Contents.{Content, File, Missing}

-- the files that were written, each a name and its bytes, in order; the numbers of the calls that fail, how many calls there were and
-- how many failed
pub record WrittenFiles : Type 0 where
  pub files : List (List ℕ × List ℕ)
  pub fails : List ℕ
  pub calls : ℕ
  pub faults : ℕ

-- what a name holds that held this, after these files were written
abbrev pub held_after : Content → List (List ℕ × List ℕ) → List ℕ → Content
held_after before [] name = before
held_after before (file ∷ files) name = held_after (if bytes_eq file.0 name then File file.1 else before) files name

-- what a name holds where there was no file before
abbrev pub held : List (List ℕ × List ℕ) → List ℕ → Content
held files name = held_after Missing files name
