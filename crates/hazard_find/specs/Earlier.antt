-- What earlier statements of a text say of a statement.
use Rattle.std.specs.Prelude.{ℕ, Bool, true, false, not, ◌&&◌, ◌||◌, List, [], ◌∷◌, codes, Option, Some, None, if◌then◌else◌}
use Rattle.std.specs.List.{list_any}
use Rattle.lint_ignore.specs.sql_keyword.declared.words.TheConstants.Keyword as keyword
use Rattle.lint_ignore.specs.sql_token.declared.token.Span.{Span}
use Rattle.lint_ignore.specs.sql_tree.declared.kinds.StmtKind.{StmtKind}
use Rattle.lint_ignore.specs.sql_tree.declared.kinds.StmtKind.TheVariants as stmt
use Rattle.lint_ignore.specs.sql_tree.declared.nodes.Body.{Body}
use Rattle.lint_ignore.specs.sql_tree.declared.nodes.Body.TheVariants as body
use Rattle.lint_ignore.specs.sql_tree.declared.nodes.Stmt.{Stmt}
use Rattle.lint_ignore.specs.sql_tree.Path.{path_cuts}
use Rattle.lint_ignore.specs.sql_tree.Statement.{Tree}
use Rattle.hazard_base.specs.lint_base.declared.settings.LinterSettings.{LinterSettings}
use Rattle.lint_ignore.specs.Comment.{has_disable_comment}
use Rattle.lint_node.specs.Same.{same_kind}
use Rattle.lint_transaction.specs.Earlier.{any_below, since}
use Rattle.lint_transaction.specs.Transaction.{is_new, is_path, same_path, stmt_at}
use Rattle.hazard_find.specs.Look.{path_after}
use Rattle.hazard_find.specs.Timeouts.{changes, limits}

-- A transaction is open before the first statement: the settings assume one, and no comment of the text says that none is to be
-- assumed.
abbrev pub is_assumed : LinterSettings → Tree → Bool
is_assumed settings tree = settings.assume_in_transaction && not (has_disable_comment tree)

-- ---- tables

abbrev pub temporary_by : Body → Option Span
temporary_by (body.Table temp guarded on_commit_drop word path elems) = if temp then Some path else None
temporary_by _ = None

-- an earlier statement creates the table of this path, and it is temporary
abbrev pub is_temporary : Tree → List (List ℕ) → ℕ → Bool
is_temporary tree path i = any_below (λ j. is_path tree (temporary_by (stmt_at tree j).body) path) i

-- Nobody else uses the table of this path at statement i: an earlier statement of the same open transaction creates it, or it is
-- temporary.
abbrev pub is_own : Bool → Tree → List (List ℕ) → ℕ → Bool
is_own assumed tree path i = is_new assumed tree path i || is_temporary tree path i

-- Others may use the table at statement i: it is not named, or is not our own.
unfoldable pub is_old : Bool → Tree → ℕ → Option Span → Bool
is_old assumed tree i None = true
is_old assumed tree i (Some path) = not (is_own assumed tree (path_cuts tree.text tree.toks path) i)

-- ---- indexes

-- the name that a token gives, cut to what PostgreSQL tells names apart by
abbrev pub last_cut : Tree → ℕ → List (List ℕ)
last_cut tree number = path_cuts tree.text tree.toks (record { first = number; last = number })

abbrev pub dropped_by : StmtKind → Body → List Span
dropped_by kind (body.Drop word concurrently guarded paths) = if same_kind kind stmt.DropIndex && guarded then paths else []
dropped_by kind _ = []

-- the statement is a DROP INDEX IF EXISTS of a path that ends in this name
abbrev pub drops : Tree → List (List ℕ) → Stmt → Bool
drops tree name s = list_any (λ path. same_path name (last_cut tree path.last)) (dropped_by s.kind s.body)

-- an earlier statement drops an index of this name, if it is there
abbrev pub is_dropped : Tree → List (List ℕ) → ℕ → Bool
is_dropped tree name i = any_below (λ j. drops tree name (stmt_at tree j)) i

-- an index of this name is dropped by an earlier statement
unfoldable pub is_dropped_index : Tree → ℕ → Option Span → Bool
is_dropped_index tree i None = false
is_dropped_index tree i (Some name) = is_dropped tree (path_cuts tree.text tree.toks name) i

-- ---- materialized views

-- the view that a CREATE MATERIALIZED VIEW makes
unfoldable pub made_view : Tree → Stmt → Option Span
made_view tree s =
    if same_kind s.kind stmt.CreateMaterializedView
    then path_after tree (keyword.CREATE ∷ keyword.MATERIALIZED ∷ keyword.VIEW ∷ []) (keyword.IF ∷ keyword.NOT ∷ keyword.EXISTS ∷ []) s
    else None

-- the view that a REFRESH without CONCURRENTLY fills anew
unfoldable pub refreshed_view : Tree → Stmt → Option Span
refreshed_view tree s =
    if same_kind s.kind stmt.Refresh then path_after tree (keyword.REFRESH ∷ keyword.MATERIALIZED ∷ keyword.VIEW ∷ []) [] s else None

-- an earlier statement makes the view of this path
abbrev pub is_made : Tree → List (List ℕ) → ℕ → Bool
is_made tree path i = any_below (λ j. is_path tree (made_view tree (stmt_at tree j)) path) i

-- a materialized view of this path is made by an earlier statement
unfoldable pub is_made_view : Tree → ℕ → Option Span → Bool
is_made_view tree i None = false
is_made_view tree i (Some path) = is_made tree (path_cuts tree.text tree.toks path) i

-- ---- timeouts

-- An earlier statement sets the timeout to a value other than 0, and none between changes it.
abbrev pub is_limited : Tree → List ℕ → ℕ → Bool
is_limited tree name i = since (λ j. limits tree name (stmt_at tree j)) (λ j. changes tree name (stmt_at tree j)) i

abbrev pub lock_timeout : List ℕ
lock_timeout = codes "lock_timeout"

abbrev pub statement_timeout : List ℕ
statement_timeout = codes "statement_timeout"

-- a timeout that the text set can cancel statement i
unfoldable pub is_under_timeout : Tree → ℕ → Bool
is_under_timeout tree i = is_limited tree lock_timeout i || is_limited tree statement_timeout i
