-- Later statements that look whether an index is valid (PostgreSQL manual, pg_index: indisvalid is false where the index may be incomplete).
use Rattle.std.specs.Prelude.{ℕ, ◌+◌, Bool, false, ◌&&◌, ◌||◌, nat_lt, List, [], ◌∷◌, codes, drop, take, length, is_some, Option, Some, None, if◌then◌else◌}
use Rattle.std.specs.List.{list_any}
use Rattle.lint_ignore.specs.sql_token.declared.token.Span.{Span}
use Rattle.lint_ignore.specs.sql_token.declared.token.Tok.{Tok}
use Rattle.lint_ignore.specs.sql_token.Terminal.{is_significant_token}
use Rattle.lint_ignore.specs.sql_token.Token.{Text, text_of}
use Rattle.lint_ignore.specs.sql_tree.declared.kinds.StmtKind.{StmtKind}
use Rattle.lint_ignore.specs.sql_tree.declared.kinds.StmtKind.TheVariants as stmt
use Rattle.lint_ignore.specs.sql_tree.declared.nodes.Body.{Body}
use Rattle.lint_ignore.specs.sql_tree.declared.nodes.Body.TheVariants as body
use Rattle.lint_ignore.specs.sql_tree.declared.nodes.Stmt.{Stmt}
use Rattle.lint_ignore.specs.sql_tree.Statement.{Tree}
use Rattle.lint_node.specs.Same.{same_kind}
use Rattle.lint_transaction.specs.Earlier.{concat_below}
use Rattle.lint_transaction.specs.Transaction.{stmt_at}
use Rattle.hazard_find.specs.declared.guards.Look.{Look}
use Rattle.hazard_find.specs.Look.{text_at}
use Rattle.hazard_find.specs.Shown.{bare, shows}

-- ---- builds that keep an invalid index

abbrev pub keeps_by : Body → Bool
keeps_by (body.Index word unique concurrently guarded name path) = is_some concurrently && guarded
keeps_by _ = false

-- CREATE INDEX CONCURRENTLY IF NOT EXISTS
unfoldable pub keeps : Stmt → Bool
keeps s = keeps_by s.body

-- ---- looks

-- the token is no comment, and has the word in it
abbrev pub token_shows : List ℕ → Text → Tok → Bool
token_shows word text tok = is_significant_token tok && shows word (text_of text tok)

-- a token from number i to before number n has the word in it
abbrev pub tokens_show : Tree → List ℕ → ℕ → ℕ → Bool
tokens_show tree word n i = list_any (token_shows word tree.text) (drop i (take n tree.toks))

-- DO, which runs code, or SELECT
abbrev pub is_look_kind : StmtKind → Bool
is_look_kind kind = same_kind kind stmt.Do || same_kind kind stmt.Select

-- the statement is one of these and has the word indisvalid
unfoldable pub is_look : Tree → Stmt → Bool
is_look tree s = is_look_kind s.kind && tokens_show tree (codes "indisvalid") (s.last + 1) s.first

-- statement i, where it looks
abbrev pub look_of : Tree → ℕ → Stmt → List Look
look_of tree i s = if is_look tree s then record { number = i; first = s.first; last = s.last } ∷ [] else []

-- the statements that look, in a text that builds an index which they could be about
unfoldable pub looks : Tree → List Look
looks tree = if list_any keeps tree.stmts then concat_below (λ i. look_of tree i (stmt_at tree i)) (length tree.stmts) else []

-- ---- guards

-- the look comes after statement i, and has the word in it
abbrev pub guards : Tree → List ℕ → ℕ → Look → Bool
guards tree word i look = nat_lt i look.number && tokens_show tree word (look.last + 1) look.first

-- a statement after statement i looks at indisvalid, and has the name of the index in it
unfoldable pub is_guarded : Tree → ℕ → Option Span → Bool
is_guarded tree i None = false
is_guarded tree i (Some name) = list_any (guards tree (bare (text_at tree name.first)) i) (looks tree)
