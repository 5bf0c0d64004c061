-- Each report of a text that is padded with blanks is of its rule, and is in the text.
use Rattle.std.specs.Prelude.{Bool, true, false, All, codes, refl, if◌then◌else◌}
use Rattle.lint_pass.specs.sql_tree.declared.nodes.ColType.{ColType}
use Rattle.lint_pass.specs.sql_tree.declared.nodes.Stmt.{Stmt}
use Rattle.lint_pass.specs.sql_tree.Range.{span_range_of}
use Rattle.lint_pass.specs.sql_tree.Statement.{Tree}
use Rattle.lint_pass.specs.lint_base.declared.rule.Rule.TheVariants as rule
use Rattle.lint_pass.specs.lint_base.Fixes.{FixValue}
use Rattle.lint_pass.specs.lint_node.ColumnTypes.{column_types, has_arguments}
use Rattle.lint_pass.specs.Fixes.{replacement_fix}
use Rattle.lint_pass.specs.FixLaws.{over_tokens}
use Rattle.lint_pass.specs.Laws.{AreEdits, HasCode, IsRead, IsPlacedIn}
use Rattle.lint_pass.specs.PlaceLaws.{span_place}
use Rattle.lint_pass.specs.ThoseLaws.{those_all}
use Rattle.pass_data_type.specs.BanCharField.{is_char, report, reports_of_ban_char_field}

report_coded : (tree : Tree) (t : ColType) → HasCode rule.BanCharField (report tree t)
unfolding report
report_coded tree t = refl

either_edits : (tree : Tree) (b : Bool) (f g : FixValue) → AreEdits tree.text f.edits → AreEdits tree.text g.edits → AreEdits tree.text (if b then f else g).edits
either_edits tree true f g h k = h
either_edits tree false f g h k = k

report_placed : (tree : Tree) → IsRead tree → (t : ColType) → IsPlacedIn tree (report tree t)
unfolding report
report_placed tree read t =
    record {
      range = span_place tree read t.inner.first t.inner.last;
      edits =
          either_edits tree (has_arguments t)
          (replacement_fix (codes "Replace with `varchar`") (codes "varchar") (span_range_of tree.toks t.name t.name))
          (replacement_fix (codes "Replace with `text`") (codes "text") (span_range_of tree.toks t.name t.name))
          (over_tokens tree read (codes "varchar") t.name t.name)
          (over_tokens tree read (codes "text") t.name t.name);
    }

pub chars_coded : (tree : Tree) (s : Stmt) → All (HasCode rule.BanCharField) (reports_of_ban_char_field tree s)
chars_coded tree s = those_all (HasCode rule.BanCharField) (is_char tree) (report tree) (column_types s) (report_coded tree)

pub chars_placed : (tree : Tree) (s : Stmt) → IsRead tree → All (IsPlacedIn tree) (reports_of_ban_char_field tree s)
chars_placed tree s read = those_all (IsPlacedIn tree) (is_char tree) (report tree) (column_types s) (report_placed tree read)
