-- Which transaction a statement is in, and which tables were created in it (PostgreSQL manual, section 3.4 and
-- the pages of BEGIN, COMMIT and ROLLBACK).
use Rattle.std.specs.Prelude.{ℕ, Bool, true, false, ◌&&◌, ◌||◌, not, List, slice_index_or, if◌then◌else◌, Option, Some, None}
use Rattle.std.specs.Cmp.Lexicographic.{pointwise}
use Rattle.std.specs.Str.{bytes_eq}
use Rattle.sql_tree.specs.sql_token.declared.token.Span.{Span}
use Rattle.sql_tree.specs.declared.kinds.StmtKind.{StmtKind}
use Rattle.sql_tree.specs.declared.kinds.StmtKind.TheVariants as stmt
use Rattle.sql_tree.specs.declared.nodes.Body.{Body}
use Rattle.sql_tree.specs.declared.nodes.Body.TheVariants as body
use Rattle.sql_tree.specs.declared.nodes.Stmt.{Stmt}
use Rattle.sql_tree.specs.Statement.{Tree}
use Rattle.sql_tree.specs.Path.{path_cuts}
use Rattle.lint_transaction.specs.Earlier.{any_below, since}

-- ---- one statement

abbrev pub is_begin_kind : StmtKind → Bool
is_begin_kind stmt.Begin = true
is_begin_kind _ = false

-- the statement begins a transaction
abbrev pub begins : Stmt → Bool
begins s = is_begin_kind s.kind

abbrev pub ends_by : Body → Bool
ends_by (body.End plain chain) = plain
ends_by _ = false

-- the statement is a plain COMMIT or ROLLBACK
abbrev pub ends : Stmt → Bool
ends s = ends_by s.body

abbrev pub chains_by : Body → Bool
chains_by (body.End plain chain) = plain && chain
chains_by _ = false

-- the statement ends a transaction and begins the next one at once
abbrev pub chains : Stmt → Bool
chains s = chains_by s.body

abbrev pub is_foreign_kind : StmtKind → Bool
is_foreign_kind stmt.CreateForeignTable = true
is_foreign_kind _ = false

abbrev pub created_by : StmtKind → Body → Option Span
created_by kind (body.Table temp guarded on_commit_drop word path elems) = if is_foreign_kind kind then None else Some path
created_by kind (body.Into path targets) = Some path
created_by kind _ = None

-- the path of the table that the statement creates, which is not a foreign one
abbrev pub created : Stmt → Option Span
created s = created_by s.kind s.body

-- ---- paths

-- the same names, each cut to the bytes by which PostgreSQL compares names
abbrev pub same_path : List (List ℕ) → List (List ℕ) → Bool
same_path p q = pointwise bytes_eq p q

abbrev pub is_path : Tree → Option Span → List (List ℕ) → Bool
is_path tree None path = false
is_path tree (Some span) path = same_path path (path_cuts tree.text tree.toks span)

-- the statement creates the table of this path
abbrev pub creates : Tree → List (List ℕ) → Stmt → Bool
creates tree path s = is_path tree (created s) path

-- ---- statements by their numbers

abbrev pub no_stmt : Stmt
no_stmt = record { kind = stmt.Empty; first = 0; last = 0; body = body.Kept }

abbrev pub stmt_at : Tree → ℕ → Stmt
stmt_at tree i = slice_index_or tree.stmts i no_stmt

abbrev pub opens_at : Tree → ℕ → Bool
opens_at tree j = begins (stmt_at tree j) || chains (stmt_at tree j)

abbrev pub ends_at : Tree → ℕ → Bool
ends_at tree j = ends (stmt_at tree j)

-- A transaction is open before statement i: some opener before it has no end after it and before i. The openers are
-- a BEGIN, an end that chains, and, where a transaction is assumed, the start of the text.
abbrev pub is_open : Bool → Tree → ℕ → Bool
is_open assumed tree i = since (opens_at tree) (ends_at tree) i || (assumed && not (any_below (ends_at tree) i))

abbrev pub creates_at : Bool → Tree → List (List ℕ) → ℕ → Bool
creates_at assumed tree path j = creates tree path (stmt_at tree j) && is_open assumed tree j

-- The table of this path is new at statement i: an earlier statement of the same open transaction creates it.
abbrev pub is_new : Bool → Tree → List (List ℕ) → ℕ → Bool
is_new assumed tree path i = since (creates_at assumed tree path) (ends_at tree) i

-- The table of this path is new at statement i; without a path there is none.
abbrev pub is_new_table : Bool → Tree → ℕ → Option Span → Bool
is_new_table assumed tree i None = false
is_new_table assumed tree i (Some path) = is_new assumed tree (path_cuts tree.text tree.toks path) i
