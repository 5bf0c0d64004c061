-- What is reported of columns that are set NOT NULL (PostgreSQL manual, ALTER TABLE, "SET/DROP NOT NULL"): since version 12 the
-- table is not scanned where a valid CHECK constraint says that the column has no null.
use Rattle.std.specs.Prelude.{ℕ, Bool, true, false, ◌&&◌, ◌||◌, not, nat_eq, pos, List, [], length, codes, slice_index_or, if◌then◌else◌, Option, Some, None}
use Rattle.std.specs.Int.Signed.{lt_z}
use Rattle.std.specs.List.{flat_map}
use Rattle.std.specs.Option.{option_map, option_and_then, option_to_list}
use Rattle.std.specs.Str.{bytes_eq}
use Rattle.sql_tree.specs.declared.kinds.ActionKind.TheVariants as action
use Rattle.sql_tree.specs.declared.kinds.PieceKind.TheVariants as piece
use Rattle.sql_tree.specs.declared.nodes.Action.{Action}
use Rattle.sql_tree.specs.declared.nodes.ConKind.TheVariants as con
use Rattle.sql_tree.specs.declared.nodes.Constraint.{Constraint}
use Rattle.sql_tree.specs.declared.nodes.Expr.{Expr, Expr-F, out-Expr}
use Rattle.sql_tree.specs.declared.nodes.Expr.TheOpen as layer
use Rattle.sql_tree.specs.declared.nodes.Piece.{Piece}
use Rattle.sql_tree.specs.Range.{span_range_of}
use Rattle.sql_tree.specs.Statement.{Tree}
use Rattle.lint_pass.specs.lint_base.declared.rule.Rule.TheVariants as rule
use Rattle.lint_pass.specs.lint_base.declared.settings.LinterSettings.{LinterSettings}
use Rattle.lint_pass.specs.lint_base.declared.violation.Violation.{Violation}
use Rattle.lint_pass.specs.lint_base.RuleSets.{Rules}
use Rattle.lint_pass.specs.lint_node.Altered.{Altered}
use Rattle.lint_pass.specs.lint_node.Parts.{added_constraint}
use Rattle.lint_pass.specs.lint_node.Same.{same_action, same_constraint, same_piece}
use Rattle.lint_pass.specs.lint_transaction.Events.{each_event, any_event, last_event}
use Rattle.lint_pass.specs.lint_transaction.Names.{name_at}
use Rattle.lint_pass.specs.RuleTables.{table_of}
use Rattle.lint_pass.specs.Those.{those}
use Rattle.pass_history.specs.Constraints.{validated_name}
use Rattle.pass_history.specs.History.{altered_at, altered_below}
use Rattle.pass_history.specs.declared.not_null_checks.NotNullCheck.{NotNullCheck}

-- ---- constraints that say that a column has no null

abbrev pub lone_name_by : Expr-F Expr → Option ℕ
lone_name_by (layer.Name path) = if nat_eq path.first path.last then Some path.first else None
lone_name_by _ = None

-- the name that an expression is, without a schema or a table
unfoldable pub lone_name : Expr → Option ℕ
lone_name x = lone_name_by (out-Expr x)

abbrev pub not_null_by : Expr-F Expr → Option ℕ
not_null_by (layer.IsNotNull x) = lone_name x
not_null_by _ = None

-- the column of the condition COLUMN IS NOT NULL
unfoldable pub not_null_column : Expr → Option ℕ
not_null_column x = not_null_by (out-Expr x)

abbrev pub check_from : ℕ → Constraint → Option NotNullCheck
check_from table k =
    option_and_then (λ name. option_map (λ column. record { name = name; table = table; column = column })
    (option_and_then not_null_column k.expr)) k.name

-- what a not valid CHECK with a name says of a column of the table
abbrev pub check_by : ℕ → Constraint → Option NotNullCheck
check_by table k = if same_constraint k.kind con.Check && k.not_valid then check_from table k else None

-- what an action adds to a table of this last name
abbrev pub check_of : ℕ → Action → Option NotNullCheck
check_of table a = option_and_then (check_by table) (added_constraint a)

-- what a history adds
abbrev pub checks : List Altered → List NotNullCheck
checks es = flat_map (λ e. option_to_list (check_of e.table.last e.action)) es

-- ---- validations

abbrev pub is_named : Tree → List ℕ → NotNullCheck → Bool
is_named tree name k = bytes_eq name (name_at tree k.name)

-- the last one of a name that the events es add
abbrev pub last_check : Tree → List Altered → List ℕ → Option NotNullCheck
last_check tree es name = last_event (is_named tree name) (checks es)

-- The validation of a check on this table excuses the column of the check; any other excuses any column.
abbrev pub excuses_column : Tree → List ℕ → List ℕ → Option NotNullCheck → Bool
excuses_column tree table column None = true
excuses_column tree table column (Some k) = not (bytes_eq table (name_at tree k.table)) || bytes_eq column (name_at tree k.column)

-- A validation on the table excuses the column; known gives the last check of a name.
abbrev pub excuses_by : Tree → (List ℕ → Option NotNullCheck) → List ℕ → List ℕ → ℕ → Option ℕ → Bool
excuses_by tree known table column on None = false
excuses_by tree known table column on (Some name) = bytes_eq table (name_at tree on) && excuses_column tree table column (known (name_at tree name))

-- after the events es, the event excuses the column of the table
abbrev pub excuses : Tree → List ℕ → List ℕ → List Altered → Altered → Bool
excuses tree table column es e = excuses_by tree (last_check tree es) table column e.table.last (validated_name e.action)

-- the version is at least 12
abbrev pub uses_checks : LinterSettings → Bool
uses_checks settings = lt_z (pos 11) (slice_index_or settings.pg_version 0 (pos 0))

-- after the events es, the column of the table may be set NOT NULL without a scan
abbrev pub is_excused : Bool → Tree → List Altered → List ℕ → List ℕ → Bool
is_excused uses tree es table column = uses && any_event (excuses tree table column) [] es

-- ---- reports

-- the name of the column that an action alters
abbrev pub altered_column : Action → Option ℕ
altered_column a = if same_action a.kind action.AlterColumn then a.name else None

abbrev pub sets_not_null : Piece → Bool
sets_not_null p = same_piece p.kind piece.SetNotNull

unfoldable pub report : Tree → Piece → Violation
report tree p = record {
  code = rule.AddingNotNullableField;
  message = codes "setting a column `not null` blocks reads while the table is scanned";
  text_range = span_range_of tree.toks p.first p.last;
  note = None;
  help = Some (codes "make the field nullable and use a `check` constraint instead");
  fix = None;
}

abbrev pub column_reports : Tree → Bool → Action → List Violation
column_reports tree excused a = if excused then [] else those sets_not_null (report tree) a.pieces

abbrev pub action_reports : Tree → (List ℕ → List ℕ → Bool) → ℕ → Action → Option ℕ → List Violation
action_reports tree excused table a None = []
action_reports tree excused table a (Some column) = column_reports tree (excused (name_at tree table) (name_at tree column)) a

-- the reports on an event, after the events es
abbrev pub report_on : Bool → Tree → List Altered → Altered → List Violation
report_on uses tree es e = action_reports tree (is_excused uses tree es) e.table.last e.action (altered_column e.action)

-- the reports on statement i
abbrev pub not_null_of : Tree → LinterSettings → ℕ → List Violation
not_null_of tree settings i = each_event (report_on (uses_checks settings) tree) (altered_below tree i) (altered_at tree i)

-- all reports, statement by statement
abbrev pub reports_of_adding_not_null_field : Tree → Rules → LinterSettings → List Violation
reports_of_adding_not_null_field tree rules settings = table_of rule.AddingNotNullableField (not_null_of tree settings) rules (length tree.stmts)
