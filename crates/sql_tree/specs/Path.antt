-- Paths: names with dots between them.
use Rattle.std.specs.Prelude.{ℕ, ◌+◌, Bool, if◌then◌else◌, List, [], ◌∷◌, drop, take}
use Rattle.std.specs.List.{flat_map}
use Rattle.sql_name.specs.Name.{cut_name}
use Rattle.sql_token.specs.declared.token.Span.{Span}
use Rattle.sql_token.specs.declared.token.Tok.{Tok}
use Rattle.sql_token.specs.Terminal.{is_name_kind}
use Rattle.sql_token.specs.Token.{Text, text_of}

abbrev pub is_name_token : Tok → Bool
is_name_token t = is_name_kind t.kind

-- the tokens from the first of a span to its last one
abbrev pub tokens_in : List Tok → Span → List Tok
tokens_in toks span = drop span.first (take (span.last + 1) toks)

-- a name, cut to what PostgreSQL tells names apart by
abbrev pub name_cuts : Text → Tok → List (List ℕ)
name_cuts t tok = if is_name_token tok then cut_name (text_of t tok) ∷ [] else []

-- the names of a path, each cut
abbrev pub path_cuts : Text → List Tok → Span → List (List ℕ)
path_cuts t toks span = flat_map (name_cuts t) (tokens_in toks span)
