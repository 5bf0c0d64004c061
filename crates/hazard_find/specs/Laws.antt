-- What it means that a hazard is enabled and not found in a text.
use Rattle.std.specs.Prelude.{◌≡◌, ◌<◌, ℕ, Bool, true, false, ◌||◌, length, None, Contains}
use Rattle.std.specs.List.{list_any}
use Rattle.lint_ignore.specs.sql_tree.declared.nodes.Action.{Action}
use Rattle.lint_ignore.specs.sql_tree.declared.nodes.Constraint.{Constraint}
use Rattle.lint_ignore.specs.sql_tree.Statement.{Tree}
use Rattle.hazard_base.specs.lint_base.declared.settings.LinterSettings.{LinterSettings}
use Rattle.lint_node.specs.Parts.{new_constraints, table_actions}
use Rattle.lint_transaction.specs.Transaction.{is_open, stmt_at}
use Rattle.hazard_base.specs.declared.finding.Finding.{Finding}
use Rattle.hazard_base.specs.declared.hazard.Hazard.{Hazard}
use Rattle.hazard_base.specs.declared.hazard.Hazard.TheVariants as hazard
use Rattle.hazard_base.specs.declared.hazard_set.HazardSet.{HazardSet}
use Rattle.hazard_base.specs.Hazards.{same_hazard}
use Rattle.hazard_base.specs.HazardSets.{has}
use Rattle.hazard_find.specs.Columns.{added_json, is_scanned}
use Rattle.hazard_find.specs.Earlier.{is_assumed, is_dropped_index, is_made_view, is_old, is_under_timeout, refreshed_view}
use Rattle.hazard_find.specs.Findings.{builds, findings_of, refreshes}
use Rattle.hazard_find.specs.Guards.{is_guarded, keeps}
use Rattle.hazard_find.specs.Here.{has_more, index_of, table_of}
use Rattle.hazard_find.specs.Refused.{detaches, refused}
use Rattle.hazard_find.specs.Rewrites.{action_rewrites, adds_serial}

abbrev pub is_of : Hazard → Finding → Bool
is_of h f = same_hazard f.hazard h

-- the hazard is enabled, and is not found
pub record IsSilent (h : Hazard) (enabled : HazardSet) (settings : LinterSettings) (tree : Tree) : Type 0 where
  pub enabled_here : has enabled h ≡ true
  pub none_found : list_any (is_of h) (findings_of enabled settings tree) ≡ false

-- In an open transaction of a text of more than one statement there is no statement that PostgreSQL refuses there.
abbrev pub TransactionsAreKept : Type 0
TransactionsAreKept =
    (enabled : HazardSet) (settings : LinterSettings) (tree : Tree) → IsSilent hazard.StatementInTransaction enabled settings tree
    → has_more tree ≡ true → (i : ℕ) → i < length tree.stmts → is_open (is_assumed settings tree) tree i ≡ true
    → (refused tree (stmt_at tree i) ≡ None) × ((a : Action) → Contains (table_actions (stmt_at tree i)) a → detaches tree a ≡ false)

-- No action of an ALTER TABLE rewrites a table that others may use.
abbrev pub TablesAreKept : Type 0
TablesAreKept =
    (enabled : HazardSet) (settings : LinterSettings) (tree : Tree) → IsSilent hazard.TableRewrite enabled settings tree
    → (i : ℕ) → i < length tree.stmts → is_old (is_assumed settings tree) tree i (table_of (stmt_at tree i)) ≡ true
    → (a : Action) → Contains (table_actions (stmt_at tree i)) a → (action_rewrites tree a ≡ None) × (adds_serial tree a ≡ false)

-- No column with a CHECK that is enforced is added to a table that others may use.
abbrev pub ColumnsAreUnchecked : Type 0
ColumnsAreUnchecked =
    (enabled : HazardSet) (settings : LinterSettings) (tree : Tree) → IsSilent hazard.ColumnWithCheck enabled settings tree
    → (i : ℕ) → i < length tree.stmts → is_old (is_assumed settings tree) tree i (table_of (stmt_at tree i)) ≡ true
    → (a : Action) → Contains (table_actions (stmt_at tree i)) a → (c : Constraint) → Contains (new_constraints a) c → is_scanned tree c ≡ false

-- Outside of a transaction, no index is built, dropped or rebuilt CONCURRENTLY while a timeout that the text set is in force.
abbrev pub BuildsAreUnlimited : Type 0
BuildsAreUnlimited =
    (enabled : HazardSet) (settings : LinterSettings) (tree : Tree) → IsSilent hazard.BuildUnderTimeout enabled settings tree
    → (i : ℕ) → i < length tree.stmts → is_under_timeout tree i ≡ true → is_open (is_assumed settings tree) tree i ≡ false
    → builds (stmt_at tree i) ≡ false

-- Before each CREATE INDEX CONCURRENTLY IF NOT EXISTS the index is dropped, if it is there, or a statement after it looks whether the
-- index is valid.
abbrev pub IndexesAreDroppedOrGuarded : Type 0
IndexesAreDroppedOrGuarded =
    (enabled : HazardSet) (settings : LinterSettings) (tree : Tree) → IsSilent hazard.InvalidIndexKept enabled settings tree
    → (i : ℕ) → i < length tree.stmts → keeps (stmt_at tree i) ≡ true
    → (is_dropped_index tree i (index_of (stmt_at tree i)) || is_guarded tree i (index_of (stmt_at tree i))) ≡ true

-- Each view that is filled anew without CONCURRENTLY was made by the text itself.
abbrev pub ViewsAreMadeFirst : Type 0
ViewsAreMadeFirst =
    (enabled : HazardSet) (settings : LinterSettings) (tree : Tree) → IsSilent hazard.RefreshBlocksReads enabled settings tree
    → (i : ℕ) → i < length tree.stmts → refreshes (stmt_at tree i) ≡ true → is_made_view tree i (refreshed_view tree (stmt_at tree i)) ≡ true

-- No column of type json is added to a table that others may use.
abbrev pub ColumnsAreNoJson : Type 0
ColumnsAreNoJson =
    (enabled : HazardSet) (settings : LinterSettings) (tree : Tree) → IsSilent hazard.JsonColumn enabled settings tree
    → (i : ℕ) → i < length tree.stmts → is_old (is_assumed settings tree) tree i (table_of (stmt_at tree i)) ≡ true
    → (a : Action) → Contains (table_actions (stmt_at tree i)) a → added_json tree a ≡ None
