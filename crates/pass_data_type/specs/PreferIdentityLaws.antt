-- Each report of a serial type is of its rule, and is in the text.
use Rattle.std.specs.Prelude.{All, refl}
use Rattle.std.specs.Option.{unwrap_or}
use Rattle.lint_pass.specs.sql_tree.declared.nodes.ColType.{ColType}
use Rattle.lint_pass.specs.sql_tree.declared.nodes.Stmt.{Stmt}
use Rattle.lint_pass.specs.sql_tree.Statement.{Tree}
use Rattle.lint_pass.specs.lint_base.declared.rule.Rule.TheVariants as rule
use Rattle.lint_pass.specs.lint_node.ColumnTypes.{column_types}
use Rattle.lint_pass.specs.FixLaws.{over_tokens}
use Rattle.lint_pass.specs.Laws.{HasCode, IsRead, IsPlacedIn}
use Rattle.lint_pass.specs.PlaceLaws.{span_place}
use Rattle.lint_pass.specs.ThoseLaws.{those_all}
use Rattle.pass_data_type.specs.declared.prefer_identity.IdentityType.{IdentityType}
use Rattle.pass_data_type.specs.declared.prefer_identity.IdentityType.TheVariants as integer
use Rattle.pass_data_type.specs.TypeNames.{row_for}
use Rattle.pass_data_type.specs.PreferIdentity.{serial_rows, phrase, report_as, is_serial, report, reports_of_prefer_identity}

report_coded : (tree : Tree) (t : ColType) (i : IdentityType) → HasCode rule.PreferIdentity (report_as tree t i)
unfolding report_as
report_coded tree t i = refl

report_placed : (tree : Tree) (t : ColType) (i : IdentityType) → IsRead tree → IsPlacedIn tree (report_as tree t i)
unfolding report_as
report_placed tree t i read =
    record { range = span_place tree read t.whole.first t.whole.last; edits = over_tokens tree read (phrase i) t.name t.name }

pub serials_coded : (tree : Tree) (s : Stmt) → All (HasCode rule.PreferIdentity) (reports_of_prefer_identity tree s)
serials_coded tree s =
    those_all (HasCode rule.PreferIdentity) (is_serial tree) (report tree) (column_types s)
    (λ t. report_coded tree t (unwrap_or (row_for serial_rows tree t) integer.Integer))

pub serials_placed : (tree : Tree) (s : Stmt) → IsRead tree → All (IsPlacedIn tree) (reports_of_prefer_identity tree s)
serials_placed tree s read =
    those_all (IsPlacedIn tree) (is_serial tree) (report tree) (column_types s)
    (λ t. report_placed tree t (unwrap_or (row_for serial_rows tree t) integer.Integer) read)
