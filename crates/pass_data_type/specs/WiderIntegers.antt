-- Which integer types are reported as too narrow, and what is to be written in their place (PostgreSQL manual, sections 8.1.1
-- and 8.1.4).
use Rattle.std.specs.Prelude.{ℕ, Bool, List, [], ◌∷◌, ◌++◌, is_some, Some, None, codes}
use Rattle.std.specs.Option.{unwrap_or}
use Rattle.lint_pass.specs.sql_tree.declared.nodes.ColType.{ColType}
use Rattle.lint_pass.specs.sql_tree.declared.nodes.Stmt.{Stmt}
use Rattle.lint_pass.specs.sql_tree.Range.{span_range_of}
use Rattle.lint_pass.specs.sql_tree.Statement.{Tree}
use Rattle.lint_pass.specs.lint_base.declared.rule.Rule.{Rule}
use Rattle.lint_pass.specs.lint_base.declared.rule.Rule.TheVariants as rule
use Rattle.lint_pass.specs.lint_base.declared.violation.Violation.{Violation}
use Rattle.lint_pass.specs.lint_node.ColumnTypes.{column_types}
use Rattle.lint_pass.specs.Fixes.{replacement_fix}
use Rattle.lint_pass.specs.Those.{those}
use Rattle.pass_data_type.specs.declared.wider_integers.WideInteger.{WideInteger}
use Rattle.pass_data_type.specs.declared.wider_integers.WideInteger.TheVariants as wide
use Rattle.pass_data_type.specs.TypeNames.{row_for}

-- 32-bit types, and 64-bit ones
abbrev pub int_rows : List (List ℕ × WideInteger)
int_rows =
    (codes "int", wide.Bigint)
    ∷ (codes "integer", wide.Bigint)
    ∷ (codes "int4", wide.Int8)
    ∷ (codes "serial", wide.Bigserial)
    ∷ (codes "serial4", wide.Serial8)
    ∷ []

-- 16-bit types, and 64-bit ones
abbrev pub smallint_rows : List (List ℕ × WideInteger)
smallint_rows =
    (codes "smallint", wide.Bigint)
    ∷ (codes "int2", wide.Int8)
    ∷ (codes "smallserial", wide.Bigserial)
    ∷ (codes "serial2", wide.Serial8)
    ∷ []

abbrev pub word : WideInteger → List ℕ
word wide.Bigint = codes "bigint"
word wide.Int8 = codes "int8"
word wide.Bigserial = codes "bigserial"
word wide.Serial8 = codes "serial8"

abbrev pub title : WideInteger → List ℕ
title w = codes "Replace with a 64-bit integer type: `" ++ word w ++ codes "`"

-- the report of a type, whose last name is to be replaced
unfoldable pub report : Rule → List ℕ → Tree → ColType → WideInteger → Violation
report code message tree t w = record {
  code = code;
  message = message;
  text_range = span_range_of tree.toks t.whole.first t.whole.last;
  note = None;
  help = Some (codes "use 64-bit integer values instead to prevent hitting this limit");
  fix = Some (replacement_fix (title w) (word w) (span_range_of tree.toks t.name t.name));
}

-- ---- 32 bits

abbrev pub is_int : Tree → ColType → Bool
is_int tree t = is_some (row_for int_rows tree t)

abbrev pub int_report : Tree → ColType → Violation
int_report tree t =
    report rule.PreferBigintOverInt (codes "using 32-bit integer fields can result in hitting the max `int` limit") tree t
    (unwrap_or (row_for int_rows tree t) wide.Bigint)

abbrev pub reports_of_prefer_bigint_over_int : Tree → Stmt → List Violation
reports_of_prefer_bigint_over_int tree s = those (is_int tree) (int_report tree) (column_types s)

-- ---- 16 bits

abbrev pub is_smallint : Tree → ColType → Bool
is_smallint tree t = is_some (row_for smallint_rows tree t)

abbrev pub smallint_report : Tree → ColType → Violation
smallint_report tree t =
    report rule.PreferBigintOverSmallint (codes "using 16-bit integer fields can result in hitting the max `smallint` limit") tree t
    (unwrap_or (row_for smallint_rows tree t) wide.Bigint)

abbrev pub reports_of_prefer_bigint_over_smallint : Tree → Stmt → List Violation
reports_of_prefer_bigint_over_smallint tree s = those (is_smallint tree) (smallint_report tree) (column_types s)
