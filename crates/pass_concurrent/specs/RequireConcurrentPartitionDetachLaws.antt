-- Each report of a partition that is detached is of its rule, and is in the text.
use Rattle.std.specs.Prelude.{All, refl}
use Rattle.lint_pass.specs.sql_tree.declared.nodes.Action.{Action}
use Rattle.lint_pass.specs.sql_tree.declared.nodes.Stmt.{Stmt}
use Rattle.lint_pass.specs.sql_tree.Statement.{Tree}
use Rattle.lint_pass.specs.lint_base.declared.rule.Rule.TheVariants as rule
use Rattle.lint_pass.specs.lint_node.Parts.{table_actions}
use Rattle.lint_pass.specs.lint_node.Plain.{is_plain_detach}
use Rattle.lint_pass.specs.Laws.{HasCode, IsRead, IsPlacedIn}
use Rattle.lint_pass.specs.PlaceLaws.{span_place}
use Rattle.lint_pass.specs.ThoseLaws.{those_all}
use Rattle.pass_concurrent.specs.ConcurrentlyLaws.{concurrently_placed}
use Rattle.pass_concurrent.specs.RequireConcurrentPartitionDetach.{end_of, report, reports_of_require_concurrent_partition_detach}

report_coded : (tree : Tree) (a : Action) → HasCode rule.RequireConcurrentPartitionDetach (report tree a)
unfolding report
report_coded tree a = refl

report_placed : (tree : Tree) (a : Action) → IsRead tree → IsPlacedIn tree (report tree a)
unfolding report
report_placed tree a read = record { range = span_place tree read a.first a.last; edits = concurrently_placed tree read (end_of a.path) }

pub detachments_coded : (tree : Tree) (s : Stmt) → All (HasCode rule.RequireConcurrentPartitionDetach) (reports_of_require_concurrent_partition_detach tree s)
detachments_coded tree s = those_all (HasCode rule.RequireConcurrentPartitionDetach) is_plain_detach (report tree) (table_actions s) (report_coded tree)

pub detachments_placed : (tree : Tree) (s : Stmt) → IsRead tree → All (IsPlacedIn tree) (reports_of_require_concurrent_partition_detach tree s)
detachments_placed tree s read = those_all (IsPlacedIn tree) is_plain_detach (report tree) (table_actions s) (λ a. report_placed tree a read)
