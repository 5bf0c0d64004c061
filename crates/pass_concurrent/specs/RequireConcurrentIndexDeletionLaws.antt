-- Each report of a DROP INDEX is of its rule, and is in the text.
use Rattle.std.specs.Prelude.{All, [], ◌∷◌, refl}
use Rattle.lint_pass.specs.sql_tree.declared.nodes.Stmt.{Stmt}
use Rattle.lint_pass.specs.sql_tree.Statement.{Tree}
use Rattle.lint_pass.specs.lint_base.declared.rule.Rule.TheVariants as rule
use Rattle.lint_pass.specs.lint_node.Plain.{is_plain_drop}
use Rattle.lint_pass.specs.Laws.{HasCode, IsRead, IsPlacedIn}
use Rattle.lint_pass.specs.PlaceLaws.{span_place}
use Rattle.lint_pass.specs.ThoseLaws.{those_all}
use Rattle.pass_concurrent.specs.ConcurrentlyLaws.{concurrently_placed}
use Rattle.pass_concurrent.specs.RequireConcurrentIndexDeletion.{index_word, report, reports_of_require_concurrent_index_deletion}

report_coded : (tree : Tree) (s : Stmt) → HasCode rule.RequireConcurrentIndexDeletion (report tree s)
unfolding report
report_coded tree s = refl

report_placed : (tree : Tree) (s : Stmt) → IsRead tree → IsPlacedIn tree (report tree s)
unfolding report
report_placed tree s read = record { range = span_place tree read s.first s.last; edits = concurrently_placed tree read (index_word s.body) }

pub deletions_coded : (tree : Tree) (s : Stmt) → All (HasCode rule.RequireConcurrentIndexDeletion) (reports_of_require_concurrent_index_deletion tree s)
deletions_coded tree s = those_all (HasCode rule.RequireConcurrentIndexDeletion) is_plain_drop (report tree) (s ∷ []) (report_coded tree)

pub deletions_placed : (tree : Tree) (s : Stmt) → IsRead tree → All (IsPlacedIn tree) (reports_of_require_concurrent_index_deletion tree s)
deletions_placed tree s read = those_all (IsPlacedIn tree) is_plain_drop (report tree) (s ∷ []) (λ t. report_placed tree t read)
