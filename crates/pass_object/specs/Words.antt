-- The words with which a piece of an ALTER SEQUENCE begins, and which pieces change the values that the sequence gives
-- (PostgreSQL manual, ALTER SEQUENCE).
use Rattle.std.specs.Prelude.{ℕ, ◌+◌, Bool, false, ◌&&◌, ◌||◌, not, nat_lt, List, drop, length, position, codes, Option, Some, None}
use Rattle.std.specs.Str.{str_eq_ignore_ascii_case}
use Rattle.lint_pass.specs.sql_token.Terminal.{is_significant_token}
use Rattle.lint_pass.specs.sql_token.Token.{text_of}
use Rattle.lint_pass.specs.sql_tree.declared.kinds.PieceKind.TheVariants as piece
use Rattle.lint_pass.specs.sql_tree.declared.nodes.Piece.{Piece}
use Rattle.lint_pass.specs.sql_tree.Range.{token_at}
use Rattle.lint_pass.specs.sql_tree.Statement.{Tree}
use Rattle.lint_pass.specs.lint_node.Same.{same_piece}

-- token n is the word, in any case; a quoted name is none
abbrev pub is_word : Tree → ℕ → List ℕ → Bool
is_word tree n word = nat_lt n (length tree.toks) && str_eq_ignore_ascii_case (text_of tree.text (token_at tree.toks n)) word

abbrev pub is_logging : Tree → ℕ → Option ℕ → Bool
is_logging tree n None = false
is_logging tree n (Some blanks) = is_word tree (n + blanks) (codes "logged") || is_word tree (n + blanks) (codes "unlogged")

-- the first significant token after token n is LOGGED or UNLOGGED
abbrev pub is_logging_after : Tree → ℕ → Bool
is_logging_after tree n = is_logging tree (n + 1) (position is_significant_token (drop (n + 1) tree.toks))

-- OWNED BY, SEQUENCE NAME, SET LOGGED and SET UNLOGGED
abbrev pub keeps_values : Tree → Piece → Bool
keeps_values tree q =
    is_word tree q.first (codes "owned") || is_word tree q.first (codes "sequence") || is_word tree q.first (codes "set") && is_logging_after tree q.first

-- any other option of a sequence
abbrev pub changes_values : Tree → Piece → Bool
changes_values tree q = same_piece q.kind piece.SequenceOption && not (keeps_values tree q)
