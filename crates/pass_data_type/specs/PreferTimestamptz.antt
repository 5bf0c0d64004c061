-- Which columns are reported as reports_of_prefer_timestamp_tz without a time zone (PostgreSQL manual, section 8.5).
use Rattle.std.specs.Prelude.{Bool, ◌&&◌, ◌||◌, List, Option, Some, None, codes, if◌then◌else◌}
use Rattle.lint_pass.specs.sql_tree.declared.nodes.ColType.{ColType}
use Rattle.lint_pass.specs.sql_tree.declared.nodes.Stmt.{Stmt}
use Rattle.lint_pass.specs.sql_tree.Range.{span_range_of}
use Rattle.lint_pass.specs.sql_tree.Statement.{Tree}
use Rattle.lint_pass.specs.lint_base.declared.rule.Rule.TheVariants as rule
use Rattle.lint_pass.specs.lint_base.declared.violation.Violation.{Violation}
use Rattle.lint_pass.specs.lint_base.Fixes.{FixValue}
use Rattle.lint_pass.specs.lint_node.ColumnTypes.{column_types, has_arguments, is_without_zone}
use Rattle.lint_pass.specs.Fixes.{replacement_fix}
use Rattle.lint_pass.specs.Those.{those}
use Rattle.pass_data_type.specs.TypeNames.{is_named}

-- A timestamp that is not one WITH TIME ZONE. A path to varchar with arguments counts too, as it does in the upstream crate.
abbrev pub drops_offset : Tree → ColType → Bool
drops_offset tree t = is_without_zone t || (has_arguments t && is_named tree (codes "varchar") t)

-- a timestamp alone has a fix
abbrev pub fix : Tree → ColType → Option FixValue
fix tree t =
    if is_without_zone t
    then Some (replacement_fix (codes "Replace with `timestamptz`") (codes "timestamptz") (span_range_of tree.toks t.inner.first t.inner.last))
    else None

unfoldable pub report : Tree → ColType → Violation
report tree t = record {
  code = rule.PreferTimestampTz;
  message = codes "`timestamp` drops the UTC offset when storing a datetime";
  text_range = span_range_of tree.toks t.whole.first t.whole.last;
  note = Some (codes "`2019-10-11 21:11:24+02` and `2019-10-11 21:11:24-06` are both stored as `2019-10-11 21:11:24`, even though they are eight hours apart");
  help = Some (codes "use `timestamptz` instead of `timestamp`");
  fix = fix tree t;
}

abbrev pub reports_of_prefer_timestamp_tz : Tree → Stmt → List Violation
reports_of_prefer_timestamp_tz tree s = those (drops_offset tree) (report tree) (column_types s)
