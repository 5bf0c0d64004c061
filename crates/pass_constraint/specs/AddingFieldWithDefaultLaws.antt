-- Each report of a column that rewrites its table is of its rule, and is in the text.
use Rattle.std.specs.Prelude.{Bool, true, false, All, List, [], ◌∷◌, refl, if◌then◌else◌}
use Rattle.std.specs.List.{flat_map}
use Rattle.lint_pass.specs.sql_token.declared.token.Span.{Span}
use Rattle.sql_tree.specs.declared.kinds.StmtKind.TheVariants as stmt
use Rattle.sql_tree.specs.declared.nodes.ConKind.TheVariants as con
use Rattle.sql_tree.specs.declared.nodes.Constraint.{Constraint}
use Rattle.sql_tree.specs.declared.nodes.Stmt.{Stmt}
use Rattle.sql_tree.specs.Nodes.{actions_in}
use Rattle.sql_tree.specs.Statement.{Tree}
use Rattle.lint_pass.specs.lint_base.declared.rule.Rule.TheVariants as rule
use Rattle.lint_pass.specs.lint_base.declared.settings.LinterSettings.{LinterSettings}
use Rattle.lint_pass.specs.lint_base.declared.violation.Violation.{Violation}
use Rattle.lint_pass.specs.lint_node.Parts.{new_constraints}
use Rattle.lint_pass.specs.lint_node.Same.{same_constraint, same_kind}
use Rattle.lint_pass.specs.Laws.{HasCode, IsRead, IsPlacedIn}
use Rattle.lint_pass.specs.PlaceLaws.{span_place}
use Rattle.lint_pass.specs.RuleLaws.{flat_all, one_all, unless_all, where_all}
use Rattle.pass_constraint.specs.AddingFieldWithDefault.{is_excused, value_span, default_report, generated_report, on_default, on_generated, on_constraint, on_action, reports_of_adding_field_with_default}

default_coded : (tree : Tree) (span : Span) → HasCode rule.AddingFieldWithDefault (default_report tree span)
unfolding default_report
default_coded tree span = refl

default_placed : (tree : Tree) (span : Span) → IsRead tree → IsPlacedIn tree (default_report tree span)
unfolding default_report
default_placed tree span read = record { range = span_place tree read span.first span.last; edits = tt }

generated_coded : (tree : Tree) (c : Constraint) → HasCode rule.AddingFieldWithDefault (generated_report tree c)
unfolding generated_report
generated_coded tree c = refl

generated_placed : (tree : Tree) (c : Constraint) → IsRead tree → IsPlacedIn tree (generated_report tree c)
unfolding generated_report
generated_placed tree c read = record { range = span_place tree read c.first c.last; edits = tt }

one_of : {X : Type 0} (P : X → Type 0) (b : Bool) (xs ys : List X) → All P xs → All P ys → All P (if b then xs else ys)
one_of P true xs ys h k = h
one_of P false xs ys h k = k

fields_all : (P : Violation → Type 0) (settings : LinterSettings) (tree : Tree) (s : Stmt) → ((span : Span) → P (default_report tree span)) → ((c : Constraint) → P (generated_report tree c))
    → All P (reports_of_adding_field_with_default settings tree s)
fields_all P settings tree s h k =
    where_all P (same_kind s.kind stmt.AlterTable) (flat_map (on_action settings tree) (actions_in s.body))
    (λ _. flat_all P (on_action settings tree) (actions_in s.body) (λ a. flat_all P (on_constraint settings tree) (new_constraints a) of_constraint))
  where
    of_default : (c : Constraint) → All P (on_default settings tree c)
    of_default c =
        let v : Violation = default_report tree (value_span c c.expr_span) in
        unless_all P (is_excused settings tree c.expr) (v ∷ []) (one_all P v (h (value_span c c.expr_span)))

    of_generated : (c : Constraint) → All P (on_generated tree c)
    of_generated c =
        where_all P (same_constraint c.kind con.Generated) (generated_report tree c ∷ []) (λ _. one_all P (generated_report tree c) (k c))

    of_constraint : (c : Constraint) → All P (on_constraint settings tree c)
    of_constraint c = one_of P (same_constraint c.kind con.Default) (on_default settings tree c) (on_generated tree c) (of_default c) (of_generated c)

pub fields_coded : (settings : LinterSettings) (tree : Tree) (s : Stmt) → All (HasCode rule.AddingFieldWithDefault) (reports_of_adding_field_with_default settings tree s)
fields_coded settings tree s = fields_all (HasCode rule.AddingFieldWithDefault) settings tree s (default_coded tree) (generated_coded tree)

pub fields_placed : (settings : LinterSettings) (tree : Tree) (s : Stmt) → IsRead tree → All (IsPlacedIn tree) (reports_of_adding_field_with_default settings tree s)
fields_placed settings tree s read =
    fields_all (IsPlacedIn tree) settings tree s (λ span. default_placed tree span read) (λ c. generated_placed tree c read)
