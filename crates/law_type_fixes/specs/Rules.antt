-- Four of the rules on column types that have a fix, as tables.
use Rattle.std.specs.Prelude.{◌≡◌, Bool, List}
use Rattle.pass_data_type.specs.sql_tree.declared.nodes.ColType.{ColType}
use Rattle.pass_data_type.specs.sql_tree.declared.nodes.Stmt.{Stmt}
use Rattle.pass_data_type.specs.sql_tree.Statement.{Tree}
use Rattle.pass_data_type.specs.lint_base.declared.rule.Rule.{Rule}
use Rattle.pass_data_type.specs.lint_base.declared.rule.Rule.TheVariants as rule
use Rattle.pass_data_type.specs.lint_base.declared.violation.Violation.{Violation}
use Rattle.pass_data_type.specs.lint_node.ColumnTypes.{column_types}
use Rattle.pass_data_type.specs.lint_pass.Those.{those}
use Rattle.pass_data_type.specs.PreferTextField as varchar
use Rattle.pass_data_type.specs.PreferTimestamptz as timestamp
use Rattle.pass_data_type.specs.WiderIntegers as integer
use Rattle.law_fixes.specs.Mended.{Reports, Table, table_by}

-- a rule that reports each column type that passes a test
pub record TypeRule : Type 0 where
  pub code : Rule
  pub test : Tree → ColType → Bool
  pub report : Tree → ColType → Violation

-- its reports on these types
abbrev pub reports_on : TypeRule → Tree → List ColType → List Violation
reports_on r tree types = those (r.test tree) (r.report tree) types

-- its reports on a statement
abbrev pub type_reports : TypeRule → Reports
type_reports r settings tree i s = reports_on r tree (column_types s)

-- its table
abbrev pub type_table : TypeRule → Table
type_table r = table_by r.code (type_reports r)

-- The reports of a pass on a statement are those of such a rule.
abbrev pub IsOfPass : TypeRule → (Tree → Stmt → List Violation) → Type 0
IsOfPass r reports = (tree : Tree) (st : Stmt) → reports tree st ≡ reports_on r tree (column_types st)

-- ---- the four rules

-- PreferTextField
abbrev pub varchars : TypeRule
varchars = record { code = rule.PreferTextField; test = varchar.is_sized_varchar; report = varchar.report }

-- PreferTimestampTz
abbrev pub timestamps : TypeRule
timestamps = record { code = rule.PreferTimestampTz; test = timestamp.drops_offset; report = timestamp.report }

-- PreferBigintOverInt
abbrev pub ints : TypeRule
ints = record { code = rule.PreferBigintOverInt; test = integer.is_int; report = integer.int_report }

-- PreferBigintOverSmallint
abbrev pub smallints : TypeRule
smallints = record { code = rule.PreferBigintOverSmallint; test = integer.is_smallint; report = integer.smallint_report }
