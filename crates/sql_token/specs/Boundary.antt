-- Tokens keep the characters of a UTF-8 text whole.
use Rattle.std.specs.Prelude.{List, [], ◌∷◌}
use Rattle.std.specs.Str.{IsUtf8, IsCharBoundary}
use Rattle.sql_token.specs.declared.token.Tok.{Tok}
use Rattle.sql_token.specs.Token.{Text, Lexed}

-- each token begins and ends between two characters of its text
abbrev pub BetweenCharacters : Text → List Tok → Type 0
BetweenCharacters t [] = Unit {0}
BetweenCharacters t (k ∷ ks) = IsCharBoundary t k.start × IsCharBoundary t k.end × BetweenCharacters t ks

abbrev pub KeepsCharacters : Type 0
KeepsCharacters = (t : Text) (ks : List Tok) → IsUtf8 t → Lexed t ks → BetweenCharacters t ks
