-- Tokens that go over several lines.
use Rattle.std.specs.Prelude.{ℕ, Bool, true, false, nat_lt, List, [], ◌∷◌, flat_map, if◌then◌else◌}
use Rattle.std.specs.Str.{IsCharBoundary}
use Rattle.lsp_shown.specs.declared.ignore.Lines.{Lines}
use Rattle.sql_token.specs.declared.token.Tok.{Tok}
use Rattle.sql_token.specs.declared.token.TokKind.{TokKind}
use Rattle.sql_token.specs.declared.token.TokKind.TheVariants.{BlockComment, Quoted, Str, UName, Dollar}
use Rattle.lsp_session.specs.text_utf16.Position.{position_of}

-- The token begins and ends between two characters.
pub record TokenIn (text : List ℕ) (token : Tok) : Type 0 where
  pub start : IsCharBoundary text token.start
  pub end : IsCharBoundary text token.end

-- a token of this kind may have a line feed inside, where no comment can be put
abbrev pub is_closed : TokKind → Bool
is_closed BlockComment = true
is_closed Quoted = true
is_closed Str = true
is_closed UName = true
is_closed Dollar = true
is_closed kind = false

abbrev pub lines_of : List ℕ → Tok → Lines
lines_of text token = record { first = (position_of text token.start).line; last = (position_of text token.end).line }

abbrev pub several : Lines → List Lines
several lines = if nat_lt lines.first lines.last then lines ∷ [] else []

-- the lines of a token of such a kind, where it goes over several
abbrev pub long_if : List ℕ → Tok → List Lines
long_if text token = if is_closed token.kind then several (lines_of text token) else []

-- the lines of the tokens that go over several lines and have delimiters
abbrev pub long_tokens : List ℕ → List Tok → List Lines
long_tokens text tokens = flat_map (long_if text) tokens
