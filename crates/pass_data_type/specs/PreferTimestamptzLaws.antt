-- Each report of a timestamp without a time zone is of its rule, and is in the text.
use Rattle.std.specs.Prelude.{Bool, true, false, All, IfSome, Some, None, codes, refl, if◌then◌else◌}
use Rattle.lint_pass.specs.sql_tree.declared.nodes.ColType.{ColType}
use Rattle.lint_pass.specs.sql_tree.declared.nodes.Stmt.{Stmt}
use Rattle.lint_pass.specs.sql_tree.Range.{span_range_of}
use Rattle.lint_pass.specs.sql_tree.Statement.{Tree}
use Rattle.lint_pass.specs.lint_base.declared.rule.Rule.TheVariants as rule
use Rattle.lint_pass.specs.lint_base.Fixes.{FixValue}
use Rattle.lint_pass.specs.lint_node.ColumnTypes.{column_types, is_without_zone}
use Rattle.lint_pass.specs.Fixes.{replacement_fix}
use Rattle.lint_pass.specs.FixLaws.{over_tokens}
use Rattle.lint_pass.specs.Laws.{AreEdits, HasCode, IsRead, IsPlacedIn}
use Rattle.lint_pass.specs.PlaceLaws.{span_place}
use Rattle.lint_pass.specs.ThoseLaws.{those_all}
use Rattle.pass_data_type.specs.PreferTimestamptz.{drops_offset, report, reports_of_prefer_timestamp_tz}

report_coded : (tree : Tree) (t : ColType) → HasCode rule.PreferTimestampTz (report tree t)
unfolding report
report_coded tree t = refl

where_edits : (tree : Tree) (b : Bool) (f : FixValue) → AreEdits tree.text f.edits → IfSome (if b then Some f else None) (λ g. AreEdits tree.text g.edits)
where_edits tree true f h = h
where_edits tree false f h = tt

report_placed : (tree : Tree) → IsRead tree → (t : ColType) → IsPlacedIn tree (report tree t)
unfolding report
report_placed tree read t =
    record {
      range = span_place tree read t.whole.first t.whole.last;
      edits =
          where_edits tree (is_without_zone t)
          (replacement_fix (codes "Replace with `timestamptz`") (codes "timestamptz") (span_range_of tree.toks t.inner.first t.inner.last))
          (over_tokens tree read (codes "timestamptz") t.inner.first t.inner.last);
    }

pub timestamps_coded : (tree : Tree) (s : Stmt) → All (HasCode rule.PreferTimestampTz) (reports_of_prefer_timestamp_tz tree s)
timestamps_coded tree s = those_all (HasCode rule.PreferTimestampTz) (drops_offset tree) (report tree) (column_types s) (report_coded tree)

pub timestamps_placed : (tree : Tree) (s : Stmt) → IsRead tree → All (IsPlacedIn tree) (reports_of_prefer_timestamp_tz tree s)
timestamps_placed tree s read = those_all (IsPlacedIn tree) (drops_offset tree) (report tree) (column_types s) (report_placed tree read)
