-- What holds of each report of an added constraint, and of each of a validation.
use Rattle.std.specs.Prelude.{ℕ, Bool, All, ◌||◌, List, [], ◌∷◌, length, take, slice_get, Option, Some, None, refl}
use Rattle.std.proofs.lemmas.List.Elements.{All-nil}
use Rattle.std.specs.List.{flat_map, list_any}
use Rattle.sql_tree.specs.declared.nodes.Action.{Action}
use Rattle.sql_tree.specs.declared.nodes.Stmt.{Stmt}
use Rattle.sql_tree.specs.Statement.{Tree}
use Rattle.lint_pass.specs.lint_base.declared.rule.Rule.TheVariants as rule
use Rattle.lint_pass.specs.lint_base.declared.settings.LinterSettings.{LinterSettings}
use Rattle.lint_pass.specs.lint_base.declared.violation.Violation.{Violation}
use Rattle.lint_pass.specs.lint_node.Altered.{path_in}
use Rattle.lint_pass.specs.lint_node.Parts.{added_constraint, is_checked, table_actions}
use Rattle.lint_pass.specs.lint_transaction.Transaction.{is_new_table, is_open, stmt_at}
use Rattle.lint_pass.specs.Laws.{HasCode, IsRead, IsPlacedIn}
use Rattle.lint_pass.specs.PlaceLaws.{span_place}
use Rattle.lint_pass.specs.RuleLaws.{flat_all, one_all, pieces_all, unless_all, where_all}
use Rattle.pass_constraint.specs.ConstraintMissingNotValid as constraint

-- what holds of each report of a validation
pub validations_all : (P : Violation → Type 0) (tree : Tree) (settings : LinterSettings) (i : ℕ) → ((a : Action) → P (constraint.validation_report tree a)) → All P (constraint.validations_in settings tree i)
validations_all P tree settings i h =
    where_all P (is_open settings.assume_in_transaction tree i) (constraint.validations tree (λ name. constraint.is_added settings.assume_in_transaction tree name i) (table_actions (stmt_at tree i)))
    (λ _. of_statement (λ name. constraint.is_added settings.assume_in_transaction tree name i) (table_actions (stmt_at tree i)))
  where
    of_action : (known : List ℕ → Bool) (o : Option Action) → All P (constraint.validation tree known o)
    of_action known None = All-nil P
    of_action known (Some a) =
        where_all P (constraint.is_known_path tree known (constraint.validated a)) (constraint.validation_report tree a ∷ []) (λ _. one_all P (constraint.validation_report tree a) (h a))

    of_statement : (known : List ℕ → Bool) (actions : List Action) → All P (constraint.validations tree known actions)
    of_statement known actions =
        pieces_all P (constraint.validation_at tree known actions) (length actions) (λ k. of_action (λ name. known name || list_any (constraint.adds_not_valid tree name) (take k actions)) (slice_get actions k))

-- what holds of each report of an added constraint
pub additions_all : (P : Violation → Type 0) (tree : Tree) (settings : LinterSettings) (i : ℕ) (s : Stmt) → ((a : Action) → P (constraint.addition_report tree a)) → All P (constraint.additions_of settings tree i s)
additions_all P tree settings i s h =
    unless_all P (is_new_table settings.assume_in_transaction tree i (path_in s.body)) (flat_map (constraint.addition tree) (table_actions s)) (flat_all P (constraint.addition tree) (table_actions s) of_action)
  where
    of_action : (a : Action) → All P (constraint.addition tree a)
    of_action a = where_all P (is_checked (added_constraint a)) (constraint.addition_report tree a ∷ []) (λ _. one_all P (constraint.addition_report tree a) (h a))

-- ---- the laws

validation_coded : (tree : Tree) (a : Action) → HasCode rule.ConstraintMissingNotValid (constraint.validation_report tree a)
unfolding constraint.validation_report
validation_coded tree a = refl

validation_placed : (tree : Tree) (a : Action) → IsRead tree → IsPlacedIn tree (constraint.validation_report tree a)
unfolding constraint.validation_report
validation_placed tree a read = record { range = span_place tree read a.first a.last; edits = tt }

addition_coded : (tree : Tree) (a : Action) → HasCode rule.ConstraintMissingNotValid (constraint.addition_report tree a)
unfolding constraint.addition_report
addition_coded tree a = refl

addition_placed : (tree : Tree) (a : Action) → IsRead tree → IsPlacedIn tree (constraint.addition_report tree a)
unfolding constraint.addition_report
addition_placed tree a read = record { range = span_place tree read a.first a.last; edits = tt }

pub validations_coded : (tree : Tree) (settings : LinterSettings) (i : ℕ) → All (HasCode rule.ConstraintMissingNotValid) (constraint.validations_in settings tree i)
validations_coded tree settings i = validations_all (HasCode rule.ConstraintMissingNotValid) tree settings i (validation_coded tree)

pub validations_placed : (tree : Tree) (settings : LinterSettings) (i : ℕ) → IsRead tree → All (IsPlacedIn tree) (constraint.validations_in settings tree i)
validations_placed tree settings i read = validations_all (IsPlacedIn tree) tree settings i (λ a. validation_placed tree a read)

pub additions_coded : (tree : Tree) (settings : LinterSettings) (i : ℕ) (s : Stmt) → All (HasCode rule.ConstraintMissingNotValid) (constraint.additions_of settings tree i s)
additions_coded tree settings i s = additions_all (HasCode rule.ConstraintMissingNotValid) tree settings i s (addition_coded tree)

pub additions_placed : (tree : Tree) (settings : LinterSettings) (i : ℕ) (s : Stmt) → IsRead tree → All (IsPlacedIn tree) (constraint.additions_of settings tree i s)
additions_placed tree settings i s read = additions_all (IsPlacedIn tree) tree settings i s (λ a. addition_placed tree a read)
