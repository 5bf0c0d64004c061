-- Ranges of statements and of slices of tokens, in bytes.
use Rattle.std.specs.Prelude.{ℕ, List, max, slice_index_or}
use Rattle.sql_name.specs.text_pos.Range.{Range}
use Rattle.sql_token.specs.declared.token.Tok.{Tok}
use Rattle.sql_tree.specs.declared.nodes.Stmt.{Stmt}
use Rattle.sql_tree.specs.Statement.{no_token}

abbrev pub token_at : List Tok → ℕ → Tok
token_at toks i = slice_index_or toks i no_token

-- From the start of the first token to the end of the last one. A range runs forward: it is empty where the last token
-- comes before the first one.
abbrev pub span_range_of : List Tok → ℕ → ℕ → Range
span_range_of toks first last =
    record { start = (token_at toks first).start; end = max (token_at toks first).start (token_at toks last).end }

-- the range of a statement, its semicolon included
abbrev pub stmt_range_of : List Tok → Stmt → Range
stmt_range_of toks s = span_range_of toks s.first s.last
