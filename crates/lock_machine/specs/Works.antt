-- The work that is listed: what a statement does to a table under a lock that it holds for as long as the table is long
-- (PostgreSQL manual, section 13.3.1, "Table-Level Locks", and the pages of CREATE INDEX, DROP INDEX, REINDEX and ALTER TABLE).
use Rattle.std.specs.Prelude.{ℕ, Bool, true, false, ◌&&◌, ◌||◌, not, List, [], ◌∷◌, ◌++◌, length, Option, Some, None, is_some, is_none, pos, int_lt, slice_index_or, if◌then◌else◌}
use Rattle.std.specs.List.{flat_map, list_any}
use Rattle.std.specs.Option.{option_map}
use Rattle.lint_pass.specs.text_pos.Range.{Range}
use Rattle.lint_pass.specs.sql_token.declared.token.Span.{Span}
use Rattle.sql_tree.specs.declared.kinds.ActionKind.{ActionKind}
use Rattle.sql_tree.specs.declared.kinds.ActionKind.TheVariants as action
use Rattle.sql_tree.specs.declared.kinds.PieceKind.{PieceKind}
use Rattle.sql_tree.specs.declared.kinds.PieceKind.TheVariants as piece
use Rattle.sql_tree.specs.declared.kinds.StmtKind.{StmtKind}
use Rattle.sql_tree.specs.declared.kinds.StmtKind.TheVariants as stmt
use Rattle.sql_tree.specs.declared.nodes.Action.{Action}
use Rattle.sql_tree.specs.declared.nodes.Body.{Body}
use Rattle.sql_tree.specs.declared.nodes.Body.TheVariants as body
use Rattle.sql_tree.specs.declared.nodes.ConKind.{ConKind}
use Rattle.sql_tree.specs.declared.nodes.ConKind.TheVariants as con
use Rattle.sql_tree.specs.declared.nodes.Constraint.{Constraint}
use Rattle.sql_tree.specs.declared.nodes.Expr.{Expr}
use Rattle.sql_tree.specs.declared.nodes.Piece.{Piece}
use Rattle.sql_tree.specs.declared.nodes.ReindexTarget.{ReindexTarget}
use Rattle.sql_tree.specs.declared.nodes.ReindexTarget.TheVariants as target
use Rattle.sql_tree.specs.declared.nodes.Stmt.{Stmt}
use Rattle.sql_tree.specs.Path.{path_cuts}
use Rattle.sql_tree.specs.Range.{span_range_of}
use Rattle.sql_tree.specs.Statement.{Tree}
use Rattle.lint_pass.specs.lint_base.declared.settings.LinterSettings.{LinterSettings}
use Rattle.lint_pass.specs.lint_ignore.Comment.{has_disable_comment}
use Rattle.lint_lock.specs.declared.lock.LockKind.{LockKind}
use Rattle.lint_lock.specs.declared.lock.LockKind.TheVariants.{Share, AccessExclusive}
use Rattle.lint_lock.specs.Lock.{lock_of_action}
use Rattle.lint_pass.specs.lint_node.Altered.{altered_path}
use Rattle.lint_pass.specs.lint_node.Parts.{is_checked, new_constraints, table_actions}
use Rattle.lint_pass.specs.lint_node.Plain.{is_system}
use Rattle.lint_pass.specs.lint_node.Same.{same_kind}
use Rattle.lint_pass.specs.lint_transaction.Earlier.{concat_below}
use Rattle.lint_pass.specs.lint_transaction.Transaction.{stmt_at}
use Rattle.lock_machine.specs.Machine.{Machine, before, is_young}
use Rattle.lock_machine.specs.Steady.{is_steady}
use Rattle.lock_machine.specs.declared.work.Work.{Work}

-- the lock, where there is work
abbrev pub lock_if : Bool → LockKind → Option LockKind
lock_if is_work lock = if is_work then Some lock else None

-- ---- indexes

abbrev pub index_lock_by : StmtKind → Body → Option LockKind
index_lock_by kind (body.Index word unique concurrently guarded name path) = lock_if (is_none concurrently) Share
index_lock_by kind (body.Drop word concurrently guarded paths) = lock_if (same_kind kind stmt.DropIndex && not concurrently) AccessExclusive
index_lock_by kind (body.Reindex aim word concurrent valued path) = lock_if ((not concurrent || valued) && not (is_system aim) && is_some path) AccessExclusive
index_lock_by kind _ = None

-- The lock of a CREATE INDEX or DROP INDEX without CONCURRENTLY, and of a REINDEX that is not concurrent, or whose option
-- CONCURRENTLY has a value, which may be OFF. REINDEX SYSTEM is not listed, nor is a REINDEX that names nothing.
abbrev pub index_lock : Stmt → Option LockKind
index_lock s = index_lock_by s.kind s.body

-- REINDEX names a table only where it says TABLE.
abbrev pub rebuilt_table : ReindexTarget → Option Span → Option Span
rebuilt_table target.Table path = path
rebuilt_table _ path = None

-- the table that is named by a statement on indexes
abbrev pub indexed_table : Body → Option Span
indexed_table (body.Index word unique concurrently guarded name path) = Some path
indexed_table (body.Reindex aim word concurrent valued path) = rebuilt_table aim path
indexed_table _ = None

-- ---- actions of ALTER TABLE

-- Version 11 is the first one that adds a column with a steady default without a rewrite.
abbrev pub is_early : LinterSettings → Bool
is_early settings = int_lt (slice_index_or settings.pg_version 0 (pos 0)) (pos 11)

abbrev pub is_steady_value : LinterSettings → Tree → Option Expr → Bool
is_steady_value settings tree None = false
is_steady_value settings tree (Some x) = is_steady settings.non_volatile tree x

-- a default of this value is written into each row
abbrev pub fills_rows : LinterSettings → Tree → Option Expr → Bool
fills_rows settings tree value = is_early settings || not (is_steady_value settings tree value)

abbrev pub reads_rows_by : LinterSettings → Tree → ConKind → Option Expr → Bool
reads_rows_by settings tree con.Unique value = true
reads_rows_by settings tree con.PrimaryKey value = true
reads_rows_by settings tree con.References value = true
reads_rows_by settings tree con.Generated value = true
reads_rows_by settings tree con.Default value = fills_rows settings tree value
reads_rows_by settings tree _ value = false

-- A column with this constraint is added by a look at each row, or by writing it.
abbrev pub reads_rows : LinterSettings → Tree → Constraint → Bool
reads_rows settings tree c = reads_rows_by settings tree c.kind c.expr

abbrev pub is_type_kind : PieceKind → Bool
is_type_kind piece.SetType = true
is_type_kind _ = false

-- the type of a column changes
abbrev pub changes_type : List Piece → Bool
changes_type pieces = list_any (λ p. is_type_kind p.kind) pieces

abbrev pub is_work_by : LinterSettings → Tree → ActionKind → Action → Bool
is_work_by settings tree action.AddConstraint a = is_checked a.constraint
is_work_by settings tree action.AddColumn a = list_any (reads_rows settings tree) (new_constraints a)
is_work_by settings tree action.AlterColumn a = changes_type a.pieces
is_work_by settings tree action.DetachPartition a = is_none a.word
is_work_by settings tree _ a = false

-- the lock of an action, where the action is work
abbrev pub action_lock : LinterSettings → Tree → Action → Option LockKind
action_lock settings tree a = lock_if (is_work_by settings tree a.kind a) (lock_of_action a)

-- ---- the list

-- Work is old where its table is not named, or was not created in the running transaction.
abbrev pub is_old : Tree → Machine → Option Span → Bool
is_old tree m None = true
is_old tree m (Some path) = not (is_young m (path_cuts tree.text tree.toks path))

abbrev pub range_of : Tree → Span → Range
range_of tree path = span_range_of tree.toks path.first path.last

-- work of statement i on the table of this path, where there is any; the machine is before the statement
abbrev pub work_if : Tree → Machine → ℕ → Option Span → Option LockKind → List Work
work_if tree m i path None = []
work_if tree m i path (Some lock) = record { stmt = i; path = option_map (range_of tree) path; lock = lock; old = is_old tree m path } ∷ []

-- the work of the actions of statement i, one per action at most
abbrev pub works_of_actions : LinterSettings → Tree → Machine → ℕ → Option Span → List Action → List Work
works_of_actions settings tree m i path actions = flat_map (λ a. work_if tree m i path (action_lock settings tree a)) actions

-- the work of statement i
abbrev pub works_of : LinterSettings → Tree → Machine → ℕ → Stmt → List Work
works_of settings tree m i s =
    work_if tree m i (indexed_table s.body) (index_lock s) ++ works_of_actions settings tree m i (altered_path s) (table_actions s)

-- A transaction is open before the first statement: the settings assume one, and no comment of the text says that none is to be
-- assumed.
abbrev pub is_assumed : LinterSettings → Tree → Bool
is_assumed settings tree = settings.assume_in_transaction && not (has_disable_comment tree)

abbrev pub works_at : LinterSettings → Tree → ℕ → List Work
works_at settings tree i = works_of settings tree (before (is_assumed settings tree) tree i) i (stmt_at tree i)

-- the work of a text, in order
abbrev pub works : Tree → LinterSettings → List Work
works tree settings = concat_below (works_at settings tree) (length tree.stmts)
