-- Places where a text can't be read are between two characters.
use Rattle.std.specs.Prelude.{ℕ}
use Rattle.std.specs.Str.{IsCharBoundary, IsUtf8}
use Rattle.sql_tree.specs.sql_token.Token.{OpenAt, Text}
use Rattle.sql_tree.specs.Statement.{IsSyntaxAt}

-- A token that never closes begins between two characters.
abbrev pub OpenBetween : Type 0
OpenBetween = (t : Text) (at : ℕ) → OpenAt t at → IsCharBoundary t at

-- So does a statement that can't be read.
abbrev pub SyntaxBetween : Type 0
SyntaxBetween = (t : Text) (at : ℕ) → IsUtf8 t → IsSyntaxAt t at → IsCharBoundary t at
