-- What a walk over the actions knows of the columns that may be set NOT NULL.
use Rattle.std.specs.Prelude.{◌≡◌, ℕ, Bool, true, ◌||◌, List, [], ◌∷◌, Option, Some, None, if◌then◌else◌}
use Rattle.std.specs.Str.{bytes_eq}
use Rattle.sql_tree.specs.Statement.{Tree}
use Rattle.lint_pass.specs.lint_node.Altered.{Altered}
use Rattle.lint_pass.specs.lint_transaction.Events.{any_event}
use Rattle.lint_pass.specs.lint_transaction.Names.{name_at}
use Rattle.lint_pass.specs.lint_transaction.SpanMap.{get_span}
use Rattle.lint_pass.specs.lint_transaction.SpanSet.{has_span}
use Rattle.lint_pass.specs.lint_transaction.declared.span_key.SpanKey.TheVariants as by
use Rattle.pass_history.specs.AddingNotNullField.{excuses, last_check}
use Rattle.pass_history.specs.declared.not_null_checks.NotNullCheck.{NotNullCheck}
use Rattle.pass_history.specs.declared.excused_columns.ExcusedColumns.{ExcusedColumns}

-- the last check of a name
abbrev pub known_check : Tree → ExcusedColumns → List ℕ → Option NotNullCheck
known_check tree known name = get_span tree known.checks (name ∷ [])

-- the column of the table is excused
abbrev pub has_excuse : Tree → ExcusedColumns → List ℕ → List ℕ → Bool
has_excuse tree known table column = has_span tree known.tables (table ∷ []) || has_span tree known.columns (table ∷ column ∷ [])

-- constraints and tables are kept by their last names, columns by table and column
pub record IsKeyed (known : ExcusedColumns) : Type 0 where
  pub by_name : known.checks.key ≡ by.LastName
  pub by_table : known.tables.key ≡ by.LastName
  pub by_ends : known.columns.key ≡ by.BothEnds

-- the last check of a name, after one more
abbrev pub with_check : Tree → List ℕ → Option NotNullCheck → Option NotNullCheck → Option NotNullCheck
with_check tree name None before = before
with_check tree name (Some k) before = if bytes_eq name (name_at tree k.name) then Some k else before

-- the check, where it is on this table
abbrev pub check_on : Tree → ℕ → Option NotNullCheck → Option NotNullCheck
check_on tree table None = None
check_on tree table (Some k) = if bytes_eq (name_at tree k.table) (name_at tree table) then Some k else None

-- what is known is what the events say
pub record IsKnowing (tree : Tree) (es : List Altered) (known : ExcusedColumns) : Type 0 where
  pub checked : (name : List ℕ) → known_check tree known name ≡ last_check tree es name
  pub excused : (table column : List ℕ) → has_excuse tree known table column ≡ any_event (excuses tree table column) [] es

-- it need only be so where the version asks for it
abbrev pub Knows : Bool → Tree → List Altered → ExcusedColumns → Type 0
Knows uses tree es known = uses ≡ true → IsKnowing tree es known

pub record IsWatching (uses : Bool) (tree : Tree) (es : List Altered) (known : ExcusedColumns) : Type 0 where
  pub keyed : IsKeyed known
  pub knows : Knows uses tree es known
