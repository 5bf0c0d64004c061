-- What a text does not do in which a hazard is enabled and not found: one law for each hazard.
use Rattle.std.specs.Prelude.{◌≡◌, ◌<◌, ◌⊎◌, ℕ, Bool, true, false, List, length, Option, Some}
use Rattle.law_renumber.specs.sql_token.declared.token.Span.{Span}
use Rattle.law_renumber.specs.sql_tree.declared.nodes.Body.TheVariants as body
use Rattle.law_renumber.specs.sql_tree.declared.nodes.Column.{Column}
use Rattle.law_renumber.specs.sql_tree.Statement.{IsTree, Tree}
use Rattle.hazard_find.specs.lint_base.declared.settings.LinterSettings.{LinterSettings}
use Rattle.hazard_find.specs.lint_transaction.Transaction.{is_open, stmt_at}
use Rattle.hazard_find.specs.hazard_base.declared.hazard.Hazard.TheVariants as hazard
use Rattle.hazard_find.specs.hazard_base.declared.hazard_set.HazardSet.{HazardSet}
use Rattle.law_hazards.specs.Additions.{AddsColumn, HasCheck, IsJson}
use Rattle.law_hazards.specs.Builds.{IsConcurrent, IsDroppedFirst, IsLookedAtLater, IsTimeout, IsUnsetBetween, SetsTime}
use Rattle.law_hazards.specs.Inside.{IsRefusedByServer, IsRefusedWork}
use Rattle.law_hazards.specs.Rewriting.{Rewrites}
use Rattle.law_hazards.specs.Silence.{IsNotFound, begins_inside}
use Rattle.law_hazards.specs.Tables.{IsOurs}
use Rattle.law_hazards.specs.Views.{IsMadeFirst}

-- Statement-in-transaction: where a transaction is open, a text of more than one statement has no statement that a transaction block
-- refuses.
abbrev pub NothingIsRefusedInside : Type 0
NothingIsRefusedInside =
    (enabled : HazardSet) (settings : LinterSettings) (tree : Tree) → IsTree tree → IsNotFound hazard.StatementInTransaction enabled settings tree
    → 1 < length tree.stmts → (i : ℕ) → i < length tree.stmts → is_open (begins_inside settings tree) tree i ≡ true
    → (IsRefusedWork tree (stmt_at tree i) → ⊥) × (IsRefusedByServer tree (stmt_at tree i) → ⊥)

-- Table-rewrite: what is written anew is a table that the statement names, and that an earlier statement of the same open transaction
-- creates, or that is temporary. So there is no VACUUM FULL before version 19, and no REINDEX SYSTEM.
abbrev pub OnlyOursAreRewritten : Type 0
OnlyOursAreRewritten =
    (enabled : HazardSet) (settings : LinterSettings) (tree : Tree) → IsTree tree → IsNotFound hazard.TableRewrite enabled settings tree
    → (i : ℕ) (table : Option Span) → i < length tree.stmts → Rewrites settings tree (stmt_at tree i) table
    → IsOurs (begins_inside settings tree) tree i table

-- Column-with-check: a column with a CHECK is added to such a table alone.
abbrev pub OnlyOursGetChecks : Type 0
OnlyOursGetChecks =
    (enabled : HazardSet) (settings : LinterSettings) (tree : Tree) → IsNotFound hazard.ColumnWithCheck enabled settings tree
    → (i : ℕ) (table : Option Span) (c : Column) → i < length tree.stmts → AddsColumn (stmt_at tree i) table c → HasCheck tree c
    → IsOurs (begins_inside settings tree) tree i table

-- Build-under-timeout: outside of a transaction, where an index is built, dropped or rebuilt CONCURRENTLY, each timeout to which a SET of
-- the text gave a time before is unset again.
abbrev pub BuildsHaveTime : Type 0
BuildsHaveTime =
    (enabled : HazardSet) (settings : LinterSettings) (tree : Tree) → IsNotFound hazard.BuildUnderTimeout enabled settings tree
    → (i : ℕ) → i < length tree.stmts → is_open (begins_inside settings tree) tree i ≡ false → IsConcurrent (stmt_at tree i)
    → (name : List ℕ) (j : ℕ) → IsTimeout name → j < i → SetsTime tree name (stmt_at tree j) → IsUnsetBetween tree name j i

-- Invalid-index-kept: an index that is built CONCURRENTLY IF NOT EXISTS has a name, and is dropped first, if it is there, or a later
-- statement looks whether it is valid.
abbrev pub InvalidIndexesAreSeen : Type 0
InvalidIndexesAreSeen =
    (enabled : HazardSet) (settings : LinterSettings) (tree : Tree) → IsNotFound hazard.InvalidIndexKept enabled settings tree
    → (i word mark : ℕ) (unique : Bool) (name : Option ℕ) (path : Span) → i < length tree.stmts
    → (stmt_at tree i).body ≡ body.Index word unique (Some mark) true name path
    → (number : ℕ) × (name ≡ Some number) × (IsDroppedFirst tree i number ⊎ IsLookedAtLater tree i number)

-- Refresh-blocks-reads: a view that is filled anew without CONCURRENTLY was made by an earlier statement.
abbrev pub ViewsAreNew : Type 0
ViewsAreNew =
    (enabled : HazardSet) (settings : LinterSettings) (tree : Tree) → IsNotFound hazard.RefreshBlocksReads enabled settings tree
    → (i : ℕ) → i < length tree.stmts → (stmt_at tree i).body ≡ body.Refresh false → IsMadeFirst tree i

-- Json-column: a column of type json is added alone to a table that an earlier statement of the same open transaction creates, or that
-- is temporary.
abbrev pub OnlyOursGetJson : Type 0
OnlyOursGetJson =
    (enabled : HazardSet) (settings : LinterSettings) (tree : Tree) → IsNotFound hazard.JsonColumn enabled settings tree
    → (i : ℕ) (table : Option Span) (c : Column) → i < length tree.stmts → AddsColumn (stmt_at tree i) table c → IsJson tree c
    → IsOurs (begins_inside settings tree) tree i table
