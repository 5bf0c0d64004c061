-- Each report of a new value of an enum is of its rule, and is in the text.
use Rattle.std.specs.Prelude.{ℕ, All, Option, IfSome, Some, None, codes, refl}
use Rattle.std.specs.Option.{option_map}
use Rattle.lint_pass.specs.sql_tree.declared.kinds.StmtKind.TheVariants as stmt
use Rattle.lint_pass.specs.sql_tree.declared.nodes.Action.{Action}
use Rattle.lint_pass.specs.sql_tree.declared.nodes.Stmt.{Stmt}
use Rattle.lint_pass.specs.sql_tree.Nodes.{actions_in}
use Rattle.lint_pass.specs.sql_tree.Statement.{Tree}
use Rattle.lint_pass.specs.lint_base.declared.rule.Rule.TheVariants as rule
use Rattle.lint_pass.specs.lint_base.declared.violation.Violation.{Violation}
use Rattle.lint_pass.specs.lint_node.Same.{same_kind}
use Rattle.lint_pass.specs.FixLaws.{after_token}
use Rattle.lint_pass.specs.Laws.{AreEdits, HasCode, IsRead, IsPlacedIn}
use Rattle.lint_pass.specs.PlaceLaws.{span_place}
use Rattle.lint_pass.specs.RuleLaws.{where_all}
use Rattle.lint_pass.specs.Those.{those}
use Rattle.lint_pass.specs.ThoseLaws.{those_all}
use Rattle.pass_data_type.specs.RequireEnumValueOrdering.{adds_last, fix_after, report, reports_of_require_enum_value_ordering}

report_coded : (tree : Tree) (a : Action) → HasCode rule.RequireEnumValueOrdering (report tree a)
unfolding report
report_coded tree a = refl

where_edits : (tree : Tree) → IsRead tree → (value : Option ℕ) → IfSome (option_map (fix_after tree) value) (λ f. AreEdits tree.text f.edits)
where_edits tree read (Some value) = after_token tree read (codes " BEFORE 'existing_value'") value
where_edits tree read None = tt

report_placed : (tree : Tree) → IsRead tree → (a : Action) → IsPlacedIn tree (report tree a)
unfolding report
report_placed tree read a = record { range = span_place tree read a.first a.last; edits = where_edits tree read a.name }

added_all : (P : Violation → Type 0) (tree : Tree) (s : Stmt) → ((a : Action) → P (report tree a)) → All P (reports_of_require_enum_value_ordering tree s)
added_all P tree s h =
    where_all P (same_kind s.kind stmt.AlterType) (those adds_last (report tree) (actions_in s.body))
    (λ _. those_all P adds_last (report tree) (actions_in s.body) h)

pub added_coded : (tree : Tree) (s : Stmt) → All (HasCode rule.RequireEnumValueOrdering) (reports_of_require_enum_value_ordering tree s)
added_coded tree s = added_all (HasCode rule.RequireEnumValueOrdering) tree s (report_coded tree)

pub added_placed : (tree : Tree) (s : Stmt) → IsRead tree → All (IsPlacedIn tree) (reports_of_require_enum_value_ordering tree s)
added_placed tree s read = added_all (IsPlacedIn tree) tree s (report_placed tree read)
