-- The values of texts.
use Rattle.std.specs.Prelude.{ℕ, List, Option, Some, None, option_map}
use Rattle.serde_json.specs.Data.{Data, null, string}
use Rattle.source_file.specs.declared.hints.Hint.{Hint}
use Rattle.source_file.specs.Hints.{text_of}

-- a text, or null
abbrev pub text_data : Option (List ℕ) → Data
text_data None = null
text_data (Some text) = string text

-- what may help, or null
abbrev pub hint_data : Option Hint → Data
hint_data hint = text_data (option_map text_of hint)
