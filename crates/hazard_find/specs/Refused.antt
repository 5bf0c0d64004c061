-- Statements that PostgreSQL refuses in a transaction block (PostgreSQL manual, the pages of DROP INDEX, REINDEX, ALTER TABLE, VACUUM,
-- CLUSTER, CREATE and DROP DATABASE, ALTER DATABASE, CREATE and DROP TABLESPACE, ALTER SYSTEM, DISCARD, COMMIT PREPARED and ROLLBACK
-- PREPARED). CREATE INDEX CONCURRENTLY is refused too, but a rule reports it.
use Rattle.std.specs.Prelude.{ℕ, Bool, false, not, ◌&&◌, List, [], ◌∷◌, codes, Option, Some, None, if◌then◌else◌}
use Rattle.std.specs.List.{list_any}
use Rattle.lint_ignore.specs.sql_keyword.declared.words.TheConstants.Keyword as keyword
use Rattle.lint_ignore.specs.sql_token.declared.token.Span.{Span}
use Rattle.lint_ignore.specs.sql_tree.declared.kinds.ActionKind.TheVariants as action
use Rattle.lint_ignore.specs.sql_tree.declared.kinds.StmtKind.{StmtKind}
use Rattle.lint_ignore.specs.sql_tree.declared.kinds.StmtKind.TheVariants as stmt
use Rattle.lint_ignore.specs.sql_tree.declared.nodes.Action.{Action}
use Rattle.lint_ignore.specs.sql_tree.declared.nodes.Body.{Body}
use Rattle.lint_ignore.specs.sql_tree.declared.nodes.Body.TheVariants as body
use Rattle.lint_ignore.specs.sql_tree.declared.nodes.ReindexTarget.{ReindexTarget}
use Rattle.lint_ignore.specs.sql_tree.declared.nodes.ReindexTarget.TheVariants as target
use Rattle.lint_ignore.specs.sql_tree.declared.nodes.Stmt.{Stmt}
use Rattle.lint_ignore.specs.sql_tree.Statement.{Tree}
use Rattle.lint_node.specs.Same.{same_action, same_kind}
use Rattle.hazard_find.specs.Look.{begins, says}
use Rattle.hazard_find.specs.Timeouts.{discards_all}

-- The message for a statement that is refused, by its kind: None for any other.

abbrev pub refused_drop : StmtKind → Bool → Option (List ℕ)
refused_drop kind concurrently =
    if same_kind kind stmt.DropIndex && concurrently then Some (codes "`drop index concurrently` always fails inside a transaction") else None

abbrev pub refused_target : ReindexTarget → Option (List ℕ)
refused_target target.Schema = Some (codes "`reindex schema` always fails inside a transaction")
refused_target target.Database = Some (codes "`reindex database` always fails inside a transaction")
refused_target target.System = Some (codes "`reindex system` always fails inside a transaction")
refused_target _ = None

abbrev pub refused_reindex : ReindexTarget → Bool → Option (List ℕ)
refused_reindex aim concurrently =
    if concurrently then Some (codes "`reindex concurrently` always fails inside a transaction") else refused_target aim

abbrev pub refused_cluster : Option Span → Option (List ℕ)
refused_cluster None = Some (codes "`cluster` without a table always fails inside a transaction")
refused_cluster (Some table) = None

-- COMMIT PREPARED and ROLLBACK PREPARED. ROLLBACK TO, which does not end the transaction either, is not refused.
unfoldable pub refused_end : Tree → Stmt → Bool → Option (List ℕ)
refused_end tree s plain =
    if plain then None
    else (if says tree (keyword.COMMIT ∷ keyword.PREPARED ∷ []) s then Some (codes "`commit prepared` always fails inside a transaction")
    else (if says tree (keyword.ROLLBACK ∷ keyword.PREPARED ∷ []) s then Some (codes "`rollback prepared` always fails inside a transaction")
    else None))

-- the action is SET TABLESPACE
unfoldable pub moves : Tree → Action → Bool
moves tree a = begins tree (keyword.SET ∷ keyword.TABLESPACE ∷ []) a.first a.last

unfoldable pub any_moves : Tree → List Action → Bool
any_moves tree actions = list_any (moves tree) actions

unfoldable pub refused_alter : Tree → StmtKind → List Action → Option (List ℕ)
refused_alter tree kind actions =
    if same_kind kind stmt.AlterSystem then Some (codes "`alter system` always fails inside a transaction")
    else (if same_kind kind stmt.AlterDatabase && any_moves tree actions then Some (codes "`alter database set tablespace` always fails inside a transaction")
    else None)

unfoldable pub refused_kind : StmtKind → Option (List ℕ)
refused_kind stmt.CreateDatabase = Some (codes "`create database` always fails inside a transaction")
refused_kind stmt.DropDatabase = Some (codes "`drop database` always fails inside a transaction")
refused_kind stmt.CreateTablespace = Some (codes "`create tablespace` always fails inside a transaction")
refused_kind stmt.DropTablespace = Some (codes "`drop tablespace` always fails inside a transaction")
refused_kind _ = None

abbrev pub refused_kept : Tree → Stmt → Option (List ℕ)
refused_kept tree s = if discards_all tree s then Some (codes "`discard all` always fails inside a transaction") else refused_kind s.kind

abbrev pub refused_by : Tree → Stmt → Body → Option (List ℕ)
refused_by tree s (body.Drop word concurrently guarded paths) = refused_drop s.kind concurrently
refused_by tree s (body.Reindex aim word concurrent valued path) = refused_reindex aim (concurrent && not valued)
refused_by tree s (body.Vacuum full tables) = Some (codes "`vacuum` always fails inside a transaction")
refused_by tree s (body.Cluster table index) = refused_cluster table
refused_by tree s (body.End plain chain) = refused_end tree s plain
refused_by tree s (body.Alter path actions) = refused_alter tree s.kind actions
refused_by tree s body.Kept = refused_kept tree s
refused_by tree s _ = None

-- the message for a statement that PostgreSQL refuses in a transaction
unfoldable pub refused : Tree → Stmt → Option (List ℕ)
refused tree s = refused_by tree s s.body

abbrev pub is_word_of : Tree → Option ℕ → Bool
is_word_of tree None = false
is_word_of tree (Some word) = begins tree (keyword.CONCURRENTLY ∷ []) word word

-- DETACH PARTITION with CONCURRENTLY
unfoldable pub detaches : Tree → Action → Bool
detaches tree a = same_action a.kind action.DetachPartition && is_word_of tree a.word
