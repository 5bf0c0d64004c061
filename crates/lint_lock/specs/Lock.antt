-- The lock that a statement takes on its table (PostgreSQL manual, section 13.3.1 and the statements' pages).
use Rattle.std.specs.Prelude.{ℕ, max, Bool, true, false, if◌then◌else◌, List, [], ◌∷◌, fold, map, slice_index_or, Option, Some, None, is_some, codes}
use Rattle.sql_tree.specs.declared.kinds.ActionKind.{ActionKind}
use Rattle.sql_tree.specs.declared.kinds.ActionKind.TheVariants as action
use Rattle.sql_tree.specs.declared.kinds.PieceKind.{PieceKind}
use Rattle.sql_tree.specs.declared.kinds.PieceKind.TheVariants as piece
use Rattle.sql_tree.specs.declared.kinds.StmtKind.{StmtKind}
use Rattle.sql_tree.specs.declared.kinds.StmtKind.TheVariants as stmt
use Rattle.sql_tree.specs.declared.nodes.Action.{Action}
use Rattle.sql_tree.specs.declared.nodes.Body.{Body}
use Rattle.sql_tree.specs.declared.nodes.Body.TheVariants as body
use Rattle.sql_tree.specs.declared.nodes.ConKind.{ConKind}
use Rattle.sql_tree.specs.declared.nodes.ConKind.TheVariants as con
use Rattle.sql_tree.specs.declared.nodes.Constraint.{Constraint}
use Rattle.sql_tree.specs.declared.nodes.LockMode.{LockMode}
use Rattle.sql_tree.specs.declared.nodes.LockMode.TheVariants as mode
use Rattle.sql_tree.specs.declared.nodes.Piece.{Piece}
use Rattle.sql_tree.specs.declared.nodes.Stmt.{Stmt}
use Rattle.lint_lock.specs.declared.lock.LockKind.{LockKind}
use Rattle.lint_lock.specs.declared.lock.LockKind.TheVariants.{Unknown, AccessShare, RowShare, RowExclusive, ShareUpdateExclusive, Share, ShareRowExclusive, Exclusive, AccessExclusive}

-- ---- locks

abbrev pub strength : LockKind → ℕ
strength Unknown = 0
strength AccessShare = 1
strength RowShare = 2
strength RowExclusive = 3
strength ShareUpdateExclusive = 4
strength Share = 5
strength ShareRowExclusive = 6
strength Exclusive = 7
strength AccessExclusive = 8

-- the mode in words, between backquotes
abbrev pub printed : LockKind → List ℕ
printed Unknown = codes ""
printed AccessShare = codes "`access share`"
printed RowShare = codes "`row share`"
printed RowExclusive = codes "`row exclusive`"
printed ShareUpdateExclusive = codes "`share update exclusive`"
printed Share = codes "`share`"
printed ShareRowExclusive = codes "`share row exclusive`"
printed Exclusive = codes "`exclusive`"
printed AccessExclusive = codes "`access exclusive`"

-- what waits for it
abbrev pub impact : LockKind → List ℕ
impact Unknown = codes ""
impact AccessExclusive = codes "reads, writes, schema changes"
impact Exclusive = codes "writes, schema changes"
impact Share = codes "writes, schema changes"
impact ShareRowExclusive = codes "writes, schema changes"
impact _ = codes "schema changes"

abbrev pub lock_in_mode : LockMode → LockKind
lock_in_mode mode.AccessShare = AccessShare
lock_in_mode mode.RowShare = RowShare
lock_in_mode mode.RowExclusive = RowExclusive
lock_in_mode mode.ShareUpdateExclusive = ShareUpdateExclusive
lock_in_mode mode.Share = Share
lock_in_mode mode.ShareRowExclusive = ShareRowExclusive
lock_in_mode mode.Exclusive = Exclusive
lock_in_mode mode.AccessExclusive = AccessExclusive

-- ---- actions of ALTER TABLE

abbrev pub is_light_kind : PieceKind → Bool
is_light_kind piece.SetOptions = true
is_light_kind piece.ResetOptions = true
is_light_kind piece.SetStatistics = true
is_light_kind _ = false

-- The one option of a column sets or resets options, or sets statistics.
abbrev pub is_light : List Piece → Bool
is_light (p ∷ []) = is_light_kind p.kind
is_light _ = false

abbrev pub is_foreign_kind : ConKind → Bool
is_foreign_kind con.ForeignKey = true
is_foreign_kind _ = false

abbrev pub is_foreign_key : Option Constraint → Bool
is_foreign_key None = false
is_foreign_key (Some c) = is_foreign_kind c.kind

abbrev pub lock_by_action : ActionKind → Action → LockKind
lock_by_action action.ClusterOn a = ShareUpdateExclusive
lock_by_action action.ResetOptions a = ShareUpdateExclusive
lock_by_action action.SetOptions a = ShareUpdateExclusive
lock_by_action action.SetWithoutCluster a = ShareUpdateExclusive
lock_by_action action.ValidateConstraint a = ShareUpdateExclusive
lock_by_action action.AlterColumn a = if is_light a.pieces then ShareUpdateExclusive else AccessExclusive
lock_by_action action.AddConstraint a = if is_foreign_key a.constraint then ShareRowExclusive else AccessExclusive
lock_by_action action.EnableTrigger a = ShareRowExclusive
lock_by_action action.DisableTrigger a = ShareRowExclusive
lock_by_action action.EnableAlwaysTrigger a = ShareRowExclusive
lock_by_action action.EnableReplicaTrigger a = ShareRowExclusive
lock_by_action _ a = AccessExclusive

abbrev pub lock_of_action : Action → LockKind
lock_of_action a = lock_by_action a.kind a

-- the locks by their strength
abbrev pub all_locks : List LockKind
all_locks = Unknown ∷ AccessShare ∷ RowShare ∷ RowExclusive ∷ ShareUpdateExclusive ∷ Share ∷ ShareRowExclusive ∷ Exclusive ∷ AccessExclusive ∷ []

-- the greatest strength of the actions' locks, or 0 where there is no action
abbrev pub greatest_strength : List Action → ℕ
greatest_strength actions = fold max 0 (map (λ a. strength (lock_of_action a)) actions)

-- the strongest lock of the actions, or Unknown where there is no action
abbrev pub strongest : List Action → LockKind
strongest actions = slice_index_or all_locks (greatest_strength actions) Unknown

-- ---- statements

abbrev pub actions_by : Body → List Action
actions_by (body.Alter path actions) = actions
actions_by _ = []

-- CONCURRENTLY is there
abbrev pub is_concurrent : Body → Bool
is_concurrent (body.Index word unique concurrently guarded name path) = is_some concurrently
is_concurrent (body.Drop word concurrently guarded paths) = concurrently
is_concurrent (body.Reindex target word concurrent valued path) = concurrent
is_concurrent (body.Refresh concurrently) = concurrently
is_concurrent _ = false

abbrev pub lock_or : Option LockMode → LockKind
lock_or None = AccessExclusive
lock_or (Some m) = lock_in_mode m

abbrev pub locked_by : Body → LockKind
locked_by (body.Locking m) = lock_or m
locked_by _ = AccessExclusive

abbrev pub is_full : Body → Bool
is_full (body.Vacuum full tables) = full
is_full _ = false

abbrev pub lock_by : StmtKind → Body → LockKind
lock_by stmt.AlterTable b = strongest (actions_by b)
lock_by stmt.Cluster b = AccessExclusive
lock_by stmt.DropTable b = AccessExclusive
lock_by stmt.DropView b = AccessExclusive
lock_by stmt.Truncate b = AccessExclusive
lock_by stmt.CommentOn b = ShareUpdateExclusive
lock_by stmt.CreateIndex b = if is_concurrent b then ShareUpdateExclusive else Share
lock_by stmt.DropIndex b = if is_concurrent b then ShareUpdateExclusive else AccessExclusive
lock_by stmt.Reindex b = if is_concurrent b then ShareUpdateExclusive else AccessExclusive
lock_by stmt.Refresh b = if is_concurrent b then Exclusive else AccessExclusive
lock_by stmt.Lock b = locked_by b
lock_by stmt.Vacuum b = if is_full b then AccessExclusive else ShareUpdateExclusive
lock_by _ b = Unknown

-- Unknown for a statement that is none of these
abbrev pub lock_of : Stmt → LockKind
lock_of s = lock_by s.kind s.body
