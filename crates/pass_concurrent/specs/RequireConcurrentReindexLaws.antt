-- Each report of a REINDEX is of its rule, and is in the text.
use Rattle.std.specs.Prelude.{All, [], ◌∷◌, refl}
use Rattle.lint_pass.specs.sql_tree.declared.nodes.Stmt.{Stmt}
use Rattle.lint_pass.specs.sql_tree.Statement.{Tree}
use Rattle.lint_pass.specs.lint_base.declared.rule.Rule.TheVariants as rule
use Rattle.lint_pass.specs.lint_node.Plain.{is_plain_reindex}
use Rattle.lint_pass.specs.Laws.{HasCode, IsRead, IsPlacedIn}
use Rattle.lint_pass.specs.PlaceLaws.{span_place}
use Rattle.lint_pass.specs.ThoseLaws.{those_all}
use Rattle.pass_concurrent.specs.ConcurrentlyLaws.{concurrently_placed}
use Rattle.pass_concurrent.specs.RequireConcurrentReindex.{target_word, report, reports_of_require_concurrent_reindex}

report_coded : (tree : Tree) (s : Stmt) → HasCode rule.RequireConcurrentReindex (report tree s)
unfolding report
report_coded tree s = refl

report_placed : (tree : Tree) (s : Stmt) → IsRead tree → IsPlacedIn tree (report tree s)
unfolding report
report_placed tree s read = record { range = span_place tree read s.first s.last; edits = concurrently_placed tree read (target_word s.body) }

pub rebuilds_coded : (tree : Tree) (s : Stmt) → All (HasCode rule.RequireConcurrentReindex) (reports_of_require_concurrent_reindex tree s)
rebuilds_coded tree s = those_all (HasCode rule.RequireConcurrentReindex) is_plain_reindex (report tree) (s ∷ []) (report_coded tree)

pub rebuilds_placed : (tree : Tree) (s : Stmt) → IsRead tree → All (IsPlacedIn tree) (reports_of_require_concurrent_reindex tree s)
rebuilds_placed tree s read = those_all (IsPlacedIn tree) is_plain_reindex (report tree) (s ∷ []) (λ t. report_placed tree t read)
