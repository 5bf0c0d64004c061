-- Each report of a text with a greatest length is of its rule, and is in the text.
use Rattle.std.specs.Prelude.{All, codes, refl}
use Rattle.lint_pass.specs.sql_tree.declared.nodes.ColType.{ColType}
use Rattle.lint_pass.specs.sql_tree.declared.nodes.Stmt.{Stmt}
use Rattle.lint_pass.specs.sql_tree.Statement.{Tree}
use Rattle.lint_pass.specs.lint_base.declared.rule.Rule.TheVariants as rule
use Rattle.lint_pass.specs.lint_node.ColumnTypes.{column_types}
use Rattle.lint_pass.specs.FixLaws.{over_tokens}
use Rattle.lint_pass.specs.Laws.{HasCode, IsRead, IsPlacedIn}
use Rattle.lint_pass.specs.PlaceLaws.{span_place}
use Rattle.lint_pass.specs.ThoseLaws.{those_all}
use Rattle.pass_data_type.specs.PreferTextField.{is_sized_varchar, report, reports_of_prefer_text_field}

report_coded : (tree : Tree) (t : ColType) → HasCode rule.PreferTextField (report tree t)
unfolding report
report_coded tree t = refl

report_placed : (tree : Tree) → IsRead tree → (t : ColType) → IsPlacedIn tree (report tree t)
unfolding report
report_placed tree read t =
    record {
      range = span_place tree read t.whole.first t.whole.last;
      edits = over_tokens tree read (codes "text") t.inner.first t.inner.last;
    }

pub varchars_coded : (tree : Tree) (s : Stmt) → All (HasCode rule.PreferTextField) (reports_of_prefer_text_field tree s)
varchars_coded tree s = those_all (HasCode rule.PreferTextField) (is_sized_varchar tree) (report tree) (column_types s) (report_coded tree)

pub varchars_placed : (tree : Tree) (s : Stmt) → IsRead tree → All (IsPlacedIn tree) (reports_of_prefer_text_field tree s)
varchars_placed tree s read = those_all (IsPlacedIn tree) (is_sized_varchar tree) (report tree) (column_types s) (report_placed tree read)
