-- What a stream of a full text has left.
use Rattle.std.specs.Prelude.{ℕ, List, if◌then◌else◌, Bool, take, map}
use Rattle.std.specs.Char.{to_ascii_lowercase}
use Rattle.sql_name.specs.declared.full_bytes.FullBytes.{FullBytes}
use Rattle.sql_name.specs.Name.{unquoted}

-- the full text that these bytes give, after the opening `"` or in a word
unfoldable pub full_from : Bool → List ℕ → List ℕ
full_from is_quoted bs = if is_quoted then unquoted bs else map to_ascii_lowercase bs

-- the bytes that are still to come
abbrev pub bytes_left : FullBytes → List ℕ
bytes_left s = take s.left (full_from s.is_quoted s.rest.now)
