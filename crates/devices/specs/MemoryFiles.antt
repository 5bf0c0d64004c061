-- What is seen of files and folders in memory.
use Rattle.std.specs.Prelude.{ℕ, List, [], ◌∷◌, if◌then◌else◌, bytes_eq, map, Option, Some, None}
use Rattle.devices.specs.Contents.{Content, File, Folder, Missing}
use Rattle.devices.specs.declared.memory_files.Held.{Held}
use Rattle.devices.specs.declared.memory_files.Held.TheVariants.{Bytes, Names, Nothing}

-- the files, each a name and its bytes; the folders, each a name and the names of its files; the numbers of the calls that fail, how
-- many calls there were and how many failed
pub record FilesInMemory : Type 0 where
  pub files : List (List ℕ × List ℕ)
  pub folders : List (List ℕ × List (List ℕ))
  pub fails : List ℕ
  pub calls : ℕ
  pub faults : ℕ

-- what is beside the first entry of a name
abbrev pub beside : {X : Type 0} → List (List ℕ × X) → List ℕ → Option X
beside [] name = None
beside (entry ∷ entries) name = if bytes_eq entry.0 name then Some entry.1 else beside entries name

-- a file, or else a folder
abbrev pub content_of : Option (List ℕ) → Option (List (List ℕ)) → Content
content_of (Some all) names = File all
content_of None (Some names) = Folder names
content_of None None = Missing

-- what a name holds: the first file of that name, or else the first folder
abbrev pub content_in : List (List ℕ × List ℕ) → List (List ℕ × List (List ℕ)) → List ℕ → Content
content_in files folders name = content_of (beside files name) (beside folders name)

-- what was found
abbrev pub content_by : Held → Content
content_by (Bytes all) = File all.now
content_by (Names names) = Folder (map (λ name. name.now) names.now)
content_by Nothing = Missing
