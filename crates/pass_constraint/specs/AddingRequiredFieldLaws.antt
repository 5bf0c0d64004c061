-- Each report of a column that a client must know of is of its rule, and is in the text.
use Rattle.std.specs.Prelude.{All, refl}
use Rattle.sql_tree.specs.declared.kinds.StmtKind.TheVariants as stmt
use Rattle.sql_tree.specs.declared.nodes.Action.{Action}
use Rattle.sql_tree.specs.declared.nodes.Stmt.{Stmt}
use Rattle.sql_tree.specs.Nodes.{actions_in}
use Rattle.sql_tree.specs.Statement.{Tree}
use Rattle.lint_pass.specs.lint_base.declared.rule.Rule.TheVariants as rule
use Rattle.lint_pass.specs.lint_base.declared.violation.Violation.{Violation}
use Rattle.lint_pass.specs.lint_node.Same.{same_kind}
use Rattle.lint_pass.specs.Laws.{HasCode, IsRead, IsPlacedIn}
use Rattle.lint_pass.specs.PlaceLaws.{span_place}
use Rattle.lint_pass.specs.RuleLaws.{where_all}
use Rattle.lint_pass.specs.Those.{those}
use Rattle.lint_pass.specs.ThoseLaws.{those_all}
use Rattle.pass_constraint.specs.AddingRequiredField.{is_required, report, reports_of_adding_required_field}

report_coded : (tree : Tree) (a : Action) → HasCode rule.AddingRequiredField (report tree a)
unfolding report
report_coded tree a = refl

report_placed : (tree : Tree) (a : Action) → IsRead tree → IsPlacedIn tree (report tree a)
unfolding report
report_placed tree a read = record { range = span_place tree read a.first a.last; edits = tt }

required_all : (P : Violation → Type 0) (tree : Tree) (s : Stmt) → ((a : Action) → P (report tree a)) → All P (reports_of_adding_required_field tree s)
required_all P tree s h =
    where_all P (same_kind s.kind stmt.AlterTable) (those is_required (report tree) (actions_in s.body))
    (λ _. those_all P is_required (report tree) (actions_in s.body) h)

pub required_coded : (tree : Tree) (s : Stmt) → All (HasCode rule.AddingRequiredField) (reports_of_adding_required_field tree s)
required_coded tree s = required_all (HasCode rule.AddingRequiredField) tree s (report_coded tree)

pub required_placed : (tree : Tree) (s : Stmt) → IsRead tree → All (IsPlacedIn tree) (reports_of_adding_required_field tree s)
required_placed tree s read = required_all (IsPlacedIn tree) tree s (λ a. report_placed tree a read)
