-- Each report of a narrow integer type is of its rule, and is in the text.
use Rattle.std.specs.Prelude.{ℕ, All, List, codes, refl}
use Rattle.std.specs.Option.{unwrap_or}
use Rattle.lint_pass.specs.sql_tree.declared.nodes.ColType.{ColType}
use Rattle.lint_pass.specs.sql_tree.declared.nodes.Stmt.{Stmt}
use Rattle.lint_pass.specs.sql_tree.Statement.{Tree}
use Rattle.lint_pass.specs.lint_base.declared.rule.Rule.{Rule}
use Rattle.lint_pass.specs.lint_base.declared.rule.Rule.TheVariants as rule
use Rattle.lint_pass.specs.lint_node.ColumnTypes.{column_types}
use Rattle.lint_pass.specs.FixLaws.{over_tokens}
use Rattle.lint_pass.specs.Laws.{HasCode, IsRead, IsPlacedIn}
use Rattle.lint_pass.specs.PlaceLaws.{span_place}
use Rattle.lint_pass.specs.ThoseLaws.{those_all}
use Rattle.pass_data_type.specs.declared.wider_integers.WideInteger.{WideInteger}
use Rattle.pass_data_type.specs.declared.wider_integers.WideInteger.TheVariants as wide
use Rattle.pass_data_type.specs.TypeNames.{row_for}
use Rattle.pass_data_type.specs.WiderIntegers.{int_rows, smallint_rows, word, report, is_int, int_report, reports_of_prefer_bigint_over_int, is_smallint, smallint_report, reports_of_prefer_bigint_over_smallint}

report_coded : (code : Rule) (message : List ℕ) (tree : Tree) (t : ColType) (w : WideInteger) → HasCode code (report code message tree t w)
unfolding report
report_coded code message tree t w = refl

report_placed : (code : Rule) (message : List ℕ) (tree : Tree) (t : ColType) (w : WideInteger) → IsRead tree → IsPlacedIn tree (report code message tree t w)
unfolding report
report_placed code message tree t w read =
    record { range = span_place tree read t.whole.first t.whole.last; edits = over_tokens tree read (word w) t.name t.name }

pub ints_coded : (tree : Tree) (s : Stmt) → All (HasCode rule.PreferBigintOverInt) (reports_of_prefer_bigint_over_int tree s)
ints_coded tree s =
    those_all (HasCode rule.PreferBigintOverInt) (is_int tree) (int_report tree) (column_types s)
    (λ t. report_coded rule.PreferBigintOverInt (codes "using 32-bit integer fields can result in hitting the max `int` limit") tree t (unwrap_or (row_for int_rows tree t) wide.Bigint))

pub ints_placed : (tree : Tree) (s : Stmt) → IsRead tree → All (IsPlacedIn tree) (reports_of_prefer_bigint_over_int tree s)
ints_placed tree s read =
    those_all (IsPlacedIn tree) (is_int tree) (int_report tree) (column_types s)
    (λ t. report_placed rule.PreferBigintOverInt (codes "using 32-bit integer fields can result in hitting the max `int` limit") tree t (unwrap_or (row_for int_rows tree t) wide.Bigint) read)

pub smallints_coded : (tree : Tree) (s : Stmt) → All (HasCode rule.PreferBigintOverSmallint) (reports_of_prefer_bigint_over_smallint tree s)
smallints_coded tree s =
    those_all (HasCode rule.PreferBigintOverSmallint) (is_smallint tree) (smallint_report tree) (column_types s)
    (λ t. report_coded rule.PreferBigintOverSmallint (codes "using 16-bit integer fields can result in hitting the max `smallint` limit") tree t (unwrap_or (row_for smallint_rows tree t) wide.Bigint))

pub smallints_placed : (tree : Tree) (s : Stmt) → IsRead tree → All (IsPlacedIn tree) (reports_of_prefer_bigint_over_smallint tree s)
smallints_placed tree s read =
    those_all (IsPlacedIn tree) (is_smallint tree) (smallint_report tree) (column_types s)
    (λ t. report_placed rule.PreferBigintOverSmallint (codes "using 16-bit integer fields can result in hitting the max `smallint` limit") tree t (unwrap_or (row_for smallint_rows tree t) wide.Bigint) read)
