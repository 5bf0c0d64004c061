-- Each report of a constraint that an ALTER TABLE adds is of its rule, and is in the text.
use Rattle.std.specs.Prelude.{ℕ, Bool, All, refl}
use Rattle.std.proofs.lemmas.List.Elements.{All-append}
use Rattle.std.specs.List.{flat_map}
use Rattle.sql_tree.specs.declared.kinds.StmtKind.TheVariants as stmt
use Rattle.sql_tree.specs.declared.nodes.Action.{Action}
use Rattle.sql_tree.specs.declared.nodes.Constraint.{Constraint}
use Rattle.sql_tree.specs.declared.nodes.Stmt.{Stmt}
use Rattle.sql_tree.specs.Nodes.{actions_in}
use Rattle.sql_tree.specs.Statement.{Tree}
use Rattle.lint_pass.specs.lint_base.declared.settings.LinterSettings.{LinterSettings}
use Rattle.lint_pass.specs.lint_base.declared.violation.Violation.{Violation}
use Rattle.lint_pass.specs.lint_node.Altered.{path_in}
use Rattle.lint_pass.specs.lint_node.Parts.{new_constraints}
use Rattle.lint_pass.specs.lint_node.Same.{same_kind}
use Rattle.lint_pass.specs.Laws.{HasCode, IsRead, IsPlacedIn}
use Rattle.lint_pass.specs.PlaceLaws.{span_place}
use Rattle.lint_pass.specs.RuleLaws.{flat_all, where_all}
use Rattle.lint_pass.specs.ThoseLaws.{those_all}
use Rattle.pass_constraint.specs.AddedConstraints.{Row, is_of_table, is_of_column, report, added, on_table, on_column, on_action, added_by}
use Rattle.lint_pass.specs.lint_transaction.Transaction.{is_new_table}

report_coded : (row : Row) (tree : Tree) (c : Constraint) → HasCode row.code (report row tree c)
unfolding report
report_coded row tree c = refl

report_placed : (row : Row) (tree : Tree) (c : Constraint) → IsRead tree → IsPlacedIn tree (report row tree c)
unfolding report
report_placed row tree c read = record { range = span_place tree read c.first c.last; edits = tt }

added_all : (P : Violation → Type 0) (row : Row) (settings : LinterSettings) (tree : Tree) (i : ℕ) (s : Stmt) → ((c : Constraint) → P (report row tree c)) → All P (added_by row settings tree i s)
added_all P row settings tree i s h =
    where_all P (same_kind s.kind stmt.AlterTable) (flat_map (on_action row new tree) (actions_in s.body)) (λ _. flat_all P (on_action row new tree) (actions_in s.body) of_action)
  where
    new : Bool
    new = is_new_table settings.assume_in_transaction tree i (path_in s.body)

    of_action : (a : Action) → All P (on_action row new tree a)
    of_action a =
        All-append P (on_table row new tree (added a)) (on_column row new tree (new_constraints a))
        (those_all P (is_of_table row new) (report row tree) (added a) h)
        (those_all P (is_of_column row new) (report row tree) (new_constraints a) h)

pub added_coded : (row : Row) (settings : LinterSettings) (tree : Tree) (i : ℕ) (s : Stmt) → All (HasCode row.code) (added_by row settings tree i s)
added_coded row settings tree i s = added_all (HasCode row.code) row settings tree i s (report_coded row tree)

pub added_placed : (row : Row) (settings : LinterSettings) (tree : Tree) (i : ℕ) (s : Stmt) → IsRead tree → All (IsPlacedIn tree) (added_by row settings tree i s)
added_placed row settings tree i s read = added_all (IsPlacedIn tree) row settings tree i s (λ c. report_placed row tree c read)
