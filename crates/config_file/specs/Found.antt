-- Which file is the configuration.
use Rattle.std.specs.Prelude.{◌≡◌, ◌⊎◌, ℕ, zero, suc, true, false, [], ◌++◌, Option, Some, None, codes}
use Rattle.check_config.specs.devices.Contents.{Content, IsThere}
use Rattle.check_config.specs.squawk_words.Words.{Text}

-- in how many folders it is looked for
abbrev pub most_folders : ℕ
most_folders = 64

abbrev pub config_in : Text → Text
config_in folder = folder ++ codes ".squawk.toml"

-- what the topmost folder of a repository has
abbrev pub top_in : Text → Text
top_in folder = folder ++ codes ".git"

-- It is in this folder; or the folder is the topmost one, and there is none; or this is found in the folder above.
unfoldable pub IsFound : (Text → Content) → ℕ → Text → Option Text → Type 0
IsFound content zero folder found = found ≡ None
IsFound content (suc folders) folder found =
    (IsThere (content (config_in folder)) true × (found ≡ Some (config_in folder)))
    ⊎ ((IsThere (content (config_in folder)) false × IsThere (content (top_in folder)) true × (found ≡ None))
    ⊎ (IsThere (content (config_in folder)) false × IsThere (content (top_in folder)) false × IsFound content folders (folder ++ codes "../") found))

-- the one that is given, or else the one that is found from the working directory on
abbrev pub IsNamed : (Text → Content) → Option Text → Option Text → Type 0
IsNamed content (Some name) found = found ≡ Some name
IsNamed content None found = IsFound content most_folders [] found
