-- What holds of each report of the pass of these tests.
use Rattle.std.specs.Prelude.{refl, All, [], ◌∷◌}
use Rattle.squawk_cli.specs.sql_tree.declared.nodes.Stmt.{Stmt}
use Rattle.squawk_cli.specs.sql_tree.Statement.{Tree}
use Rattle.squawk_cli.specs.lint_base.declared.rule.Rule.TheVariants as rule
use Rattle.squawk_cli.specs.lint_pass.Laws.{HasCode, IsRead, IsPlacedIn}
use Rattle.squawk_cli.specs.lint_pass.PlaceLaws.{span_place}
use Rattle.squawk_cli.specs.lint_pass.RuleLaws.{one_all}
use Rattle.test_linter.specs.Marks.{report}

report_coded : (tree : Tree) (s : Stmt) → HasCode rule.BanDropTable (report tree s)
unfolding report
report_coded tree s = refl

report_placed : (tree : Tree) (s : Stmt) → IsRead tree → IsPlacedIn tree (report tree s)
unfolding report
report_placed tree s read = record { range = span_place tree read s.first s.last; edits = tt }

pub mark_coded : (tree : Tree) (s : Stmt) → All (HasCode rule.BanDropTable) (report tree s ∷ [])
mark_coded tree s = one_all (HasCode rule.BanDropTable) (report tree s) (report_coded tree s)

pub mark_placed : (tree : Tree) (s : Stmt) → IsRead tree → All (IsPlacedIn tree) (report tree s ∷ [])
mark_placed tree s read = one_all (IsPlacedIn tree) (report tree s) (report_placed tree s read)
