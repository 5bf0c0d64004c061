-- What is known of a statement by the settings and by the text around it.
use Rattle.std.specs.Prelude.{◌≡◌, ◌<◌, ℕ, ℤ, pos, Bool, true, false, not, ◌&&◌, ◌||◌, List, length, codes, slice_index_or, Option, Some, None, if◌then◌else◌}
use Rattle.std.specs.List.{list_any}
use Rattle.lint_ignore.specs.sql_token.declared.token.Span.{Span}
use Rattle.lint_ignore.specs.sql_tree.declared.kinds.ActionKind.TheVariants as action
use Rattle.lint_ignore.specs.sql_tree.declared.kinds.StmtKind.{StmtKind}
use Rattle.lint_ignore.specs.sql_tree.declared.kinds.StmtKind.TheVariants as stmt
use Rattle.lint_ignore.specs.sql_tree.declared.nodes.Body.{Body}
use Rattle.lint_ignore.specs.sql_tree.declared.nodes.Body.TheVariants as body
use Rattle.lint_ignore.specs.sql_tree.declared.nodes.Stmt.{Stmt}
use Rattle.lint_ignore.specs.sql_tree.Path.{path_cuts}
use Rattle.lint_ignore.specs.sql_tree.Statement.{Tree}
use Rattle.lint_report.specs.lint_base.declared.settings.LinterSettings.{LinterSettings}
use Rattle.lint_ignore.specs.Comment.{has_disable_comment}
use Rattle.lint_node.specs.Parts.{has_action}
use Rattle.lint_transaction.specs.Earlier.{any_below}
use Rattle.lint_transaction.specs.Names.{is_one_name}
use Rattle.lint_transaction.specs.Transaction.{created, is_open, is_path, stmt_at}
use Rattle.fix_class.specs.declared.known.Known.{Known}
use Rattle.fix_class.specs.Words.{says}

-- A transaction is open before the first statement: the settings assume one, and no comment of the text says otherwise.
abbrev pub is_assumed : LinterSettings → Tree → Bool
is_assumed settings tree = settings.assume_in_transaction && not (has_disable_comment tree)

-- the major version of PostgreSQL
abbrev pub major_of : LinterSettings → ℤ
major_of settings = slice_index_or settings.pg_version 0 (pos 0)

-- ---- timeouts

abbrev pub is_timeout : Tree → Option Span → Bool
is_timeout tree None = false
is_timeout tree (Some path) = is_one_name tree path (codes "lock_timeout") || is_one_name tree path (codes "statement_timeout")

abbrev pub parameter_by : Body → Option Span
parameter_by (body.Setting name) = name
parameter_by _ = None

-- the statement sets a timeout, to whatever value
unfoldable pub limits : Tree → Stmt → Bool
limits tree s = is_timeout tree (parameter_by s.body)

-- ---- work outside of transactions

unfoldable pub is_outside_kind : StmtKind → Bool
is_outside_kind stmt.AlterDatabase = true
is_outside_kind stmt.AlterSystem = true
is_outside_kind stmt.Cluster = true
is_outside_kind stmt.CreateDatabase = true
is_outside_kind stmt.CreateTablespace = true
is_outside_kind stmt.Discard = true
is_outside_kind stmt.DropDatabase = true
is_outside_kind stmt.DropIndex = true
is_outside_kind stmt.DropTablespace = true
is_outside_kind stmt.Vacuum = true
is_outside_kind _ = false

abbrev pub is_outside_by : StmtKind → Body → Bool
is_outside_by kind (body.Index word unique concurrently guarded name path) = true
is_outside_by kind (body.Reindex target word concurrent valued path) = true
is_outside_by kind (body.Alter path actions) = is_outside_kind kind || has_action action.DetachPartition actions
is_outside_by kind _ = is_outside_kind kind

-- The statement may be one that runs outside of transactions alone, or a fix may make it one: it works on an index, detaches a partition, or is about
-- a database, a tablespace, the system or rows that are gone.
abbrev pub is_outside_work : Stmt → Bool
is_outside_work s = is_outside_by s.kind s.body

-- ---- partitioned tables

abbrev pub path_if : Bool → Option Span → Option Span
path_if is None = None
path_if is (Some path) = if is then Some path else None

-- the path of the table that the statement makes with PARTITION BY
unfoldable pub partitioned_table : Tree → Stmt → Option Span
partitioned_table tree s = path_if (says tree (codes "partition") s && says tree (codes "by") s) (created s)

-- an earlier statement makes the partitioned table of this path
abbrev pub is_partitioned : Tree → List (List ℕ) → ℕ → Bool
is_partitioned tree path i = any_below (λ j. is_path tree (partitioned_table tree (stmt_at tree j)) path) i

abbrev pub indexed_by : Body → Option Span
indexed_by (body.Index word unique concurrently guarded name path) = Some path
indexed_by _ = None

abbrev pub is_partitioned_at : Tree → ℕ → Option Span → Bool
is_partitioned_at tree i None = false
is_partitioned_at tree i (Some path) = is_partitioned tree (path_cuts tree.text tree.toks path) i

-- ---- all of it

-- what is known of statement i
unfoldable pub known_at : LinterSettings → Tree → ℕ → Known
known_at settings tree i = record {
  is_inside = is_open (is_assumed settings tree) tree i;
  is_limited = any_below (λ j. limits tree (stmt_at tree j)) i;
  is_on_partitioned = is_partitioned_at tree i (indexed_by (stmt_at tree i).body);
  has_outside_work = list_any is_outside_work tree.stmts;
  major = major_of settings;
}

abbrev pub nothing : Known
nothing = record { is_inside = false; is_limited = false; is_on_partitioned = false; has_outside_work = false; major = pos 0 }

-- this is known of the statements, one by one
pub record AreKnown (settings : LinterSettings) (tree : Tree) (known : List Known) : Type 0 where
  pub count : length known ≡ length tree.stmts
  pub each : (i : ℕ) → i < length tree.stmts → slice_index_or known i nothing ≡ known_at settings tree i
