-- Comments on lines of their own that already tell the linter to leave reports of the next line.
use Rattle.std.specs.Prelude.{ℕ, ◌+◌, Bool, true, false, ◌&&◌, nat_eq, nat_lt, List, [], ◌∷◌, ◌++◌, Option, Some, None, codes, drop, if◌then◌else◌}
use Rattle.std.specs.List.{starts_with}
use Rattle.sql_token.specs.declared.token.Tok.{Tok}
use Rattle.sql_token.specs.declared.token.TokKind.{TokKind}
use Rattle.sql_token.specs.declared.token.TokKind.TheVariants.{Blank, LineComment}
use Rattle.lsp_session.specs.text_utf16.Position.{position_of}
use Rattle.lsp_session.specs.text_utf16.declared.position.Pos.{Pos}

abbrev pub is_line_comment : TokKind → Bool
is_line_comment LineComment = true
is_line_comment kind = false

abbrev pub is_blank : TokKind → Bool
is_blank Blank = true
is_blank kind = false

-- a token is the first one on its line: none comes before it, or white space that begins on an earlier line
abbrev pub begins_line : List ℕ → Option Tok → Tok → Bool
begins_line text None token = true
begins_line text (Some before) token = is_blank before.kind && nat_lt (position_of text before.start).line (position_of text token.start).line

-- a line comment begins with these words, so that the names come 17 bytes after its start
abbrev pub has_names : List ℕ → Tok → Bool
has_names text token = is_line_comment token.kind && starts_with nat_eq (drop token.start text) (codes "-- squawk-ignore ")

-- where the names begin of such a comment on a line of its own, by the token before it
abbrev pub note_if : List ℕ → Option Tok → Tok → List Pos
note_if text before token = if has_names text token && begins_line text before token then position_of text (token.start + 17) ∷ [] else []

-- the same of each token
abbrev pub notes_from : List ℕ → Option Tok → List Tok → List Pos
notes_from text before [] = []
notes_from text before (token ∷ tokens) = note_if text before token ++ notes_from text (Some token) tokens

-- where the names begin of the comments of a text that are such comments on lines of their own
abbrev pub notes_in : List ℕ → List Tok → List Pos
notes_in text tokens = notes_from text None tokens
