-- Which columns are reported as texts with a greatest length (PostgreSQL manual, section 8.3).
use Rattle.std.specs.Prelude.{Bool, ◌&&◌, ◌||◌, List, Some, None, codes}
use Rattle.lint_pass.specs.sql_tree.declared.nodes.ColType.{ColType}
use Rattle.lint_pass.specs.sql_tree.declared.nodes.Stmt.{Stmt}
use Rattle.lint_pass.specs.sql_tree.declared.nodes.TyKind.TheVariants as type
use Rattle.lint_pass.specs.sql_tree.Range.{span_range_of}
use Rattle.lint_pass.specs.sql_tree.Statement.{Tree}
use Rattle.lint_pass.specs.lint_base.declared.rule.Rule.TheVariants as rule
use Rattle.lint_pass.specs.lint_base.declared.violation.Violation.{Violation}
use Rattle.lint_pass.specs.lint_node.ColumnTypes.{column_types, has_arguments, is_of_kind}
use Rattle.lint_pass.specs.Fixes.{replacement_fix}
use Rattle.lint_pass.specs.Those.{those}
use Rattle.pass_data_type.specs.TypeNames.{is_named}

-- varchar or CHARACTER VARYING with a length, or a path to varchar with one
abbrev pub is_sized_varchar : Tree → ColType → Bool
is_sized_varchar tree t = has_arguments t && (is_of_kind type.Varchar t || is_named tree (codes "varchar") t)

unfoldable pub report : Tree → ColType → Violation
report tree t = record {
  code = rule.PreferTextField;
  message = codes "changing the size of a `varchar` field requires an `access exclusive` lock, that will prevent all reads and writes to the table";
  text_range = span_range_of tree.toks t.whole.first t.whole.last;
  note = None;
  help = Some (codes "use a `text` field with a `check` constraint");
  fix = Some (replacement_fix (codes "Replace with `text`") (codes "text") (span_range_of tree.toks t.inner.first t.inner.last));
}

abbrev pub reports_of_prefer_text_field : Tree → Stmt → List Violation
reports_of_prefer_text_field tree s = those (is_sized_varchar tree) (report tree) (column_types s)
