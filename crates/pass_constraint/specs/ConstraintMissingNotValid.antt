-- What is reported of constraints that are added to tables in use (PostgreSQL manual, ALTER TABLE, ADD table_constraint
-- and VALIDATE CONSTRAINT): first the validations in the transaction that added the constraint as not valid, then the
-- constraints that are added so that the table is scanned.
use Rattle.std.specs.Prelude.{ℕ, Bool, true, false, ◌&&◌, ◌||◌, not, List, [], ◌∷◌, ◌++◌, length, take, slice_get, codes, if◌then◌else◌, Option, Some, None}
use Rattle.std.specs.List.{flat_map, list_any}
use Rattle.lint_pass.specs.sql_token.declared.token.Span.{Span}
use Rattle.sql_tree.specs.declared.kinds.ActionKind.TheVariants as action
use Rattle.sql_tree.specs.declared.nodes.Action.{Action}
use Rattle.sql_tree.specs.declared.nodes.Constraint.{Constraint}
use Rattle.sql_tree.specs.declared.nodes.Stmt.{Stmt}
use Rattle.sql_tree.specs.Range.{span_range_of}
use Rattle.sql_tree.specs.Statement.{Tree}
use Rattle.lint_pass.specs.lint_base.declared.rule.Rule.TheVariants as rule
use Rattle.lint_pass.specs.lint_base.declared.settings.LinterSettings.{LinterSettings}
use Rattle.lint_pass.specs.lint_base.declared.violation.Violation.{Violation}
use Rattle.lint_pass.specs.lint_base.RuleSets.{Rules}
use Rattle.lint_pass.specs.lint_node.Altered.{path_in}
use Rattle.lint_pass.specs.lint_node.Parts.{added_constraint, is_checked, table_actions}
use Rattle.lint_pass.specs.lint_node.Same.{same_action}
use Rattle.lint_pass.specs.lint_transaction.Earlier.{since, concat_below}
use Rattle.lint_pass.specs.RuleTables.{table_of}
use Rattle.lint_pass.specs.lint_transaction.Names.{is_name, name_at}
use Rattle.lint_pass.specs.lint_transaction.Transaction.{stmt_at, ends_at, is_open, is_new_table}

-- ---- actions

-- the path of the constraint that an action validates
abbrev pub validated : Action → Option Span
validated a = if same_action a.kind action.ValidateConstraint then a.path else None

abbrev pub report_on : Tree → List ℕ → List ℕ → Action → Violation
report_on tree message help a = record {
  code = rule.ConstraintMissingNotValid;
  message = message;
  text_range = span_range_of tree.toks a.first a.last;
  note = None;
  help = Some help;
  fix = None;
}

-- ---- first: validations of constraints that the same transaction added

abbrev pub name_if_not_valid : Option Constraint → Option ℕ
name_if_not_valid None = None
name_if_not_valid (Some c) = if c.not_valid then c.name else None

-- the action adds a constraint of this name as not valid
abbrev pub adds_not_valid : Tree → List ℕ → Action → Bool
adds_not_valid tree name a = is_name tree name (name_if_not_valid (added_constraint a))

-- statement j adds it in an open transaction
abbrev pub adds_at : Bool → Tree → List ℕ → ℕ → Bool
adds_at assumed tree name j = is_open assumed tree j && list_any (adds_not_valid tree name) (table_actions (stmt_at tree j))

-- An earlier statement of the same open transaction as statement i added a constraint of this name as not valid.
abbrev pub is_added : Bool → Tree → List ℕ → ℕ → Bool
is_added assumed tree name i = since (adds_at assumed tree name) (ends_at tree) i

unfoldable pub validation_report : Tree → Action → Violation
validation_report tree a =
    report_on tree (codes "using `not valid` and `validate constraint` in the same transaction will block all reads while the constraint is validated")
    (codes "add constraint as `not valid` in one transaction and `validate constraint` in a separate transaction") a

-- the last name of the path is known
abbrev pub is_known_path : Tree → (List ℕ → Bool) → Option Span → Bool
is_known_path tree is_known None = false
is_known_path tree is_known (Some path) = is_known (name_at tree path.last)

-- a validation of a constraint whose name is known
abbrev pub validation : Tree → (List ℕ → Bool) → Option Action → List Violation
validation tree is_known None = []
validation tree is_known (Some a) = if is_known_path tree is_known (validated a) then validation_report tree a ∷ [] else []

-- Action k validates a constraint that is known already, or that an earlier action of the same statement added.
abbrev pub validation_at : Tree → (List ℕ → Bool) → List Action → ℕ → List Violation
validation_at tree is_known actions k =
    validation tree (λ name. is_known name || list_any (adds_not_valid tree name) (take k actions)) (slice_get actions k)

abbrev pub validations : Tree → (List ℕ → Bool) → List Action → List Violation
validations tree is_known actions = concat_below (validation_at tree is_known actions) (length actions)

-- the validations of statement i, where it is in an open transaction
abbrev pub validations_in : LinterSettings → Tree → ℕ → List Violation
validations_in settings tree i =
    if is_open settings.assume_in_transaction tree i
    then validations tree (λ name. is_added settings.assume_in_transaction tree name i) (table_actions (stmt_at tree i))
    else []

abbrev pub reports_of_validations : Tree → Rules → LinterSettings → List Violation
reports_of_validations tree rules settings =
    table_of rule.ConstraintMissingNotValid (validations_in settings tree) rules (length tree.stmts)

-- ---- second: constraints that are added so that the table is scanned

unfoldable pub addition_report : Tree → Action → Violation
addition_report tree a =
    report_on tree (codes "by default new constraints require a table scan and block writes to the table while that scan occurs")
    (codes "use `not valid` with a later `validate constraint` call") a

abbrev pub addition : Tree → Action → List Violation
addition tree a = if is_checked (added_constraint a) then addition_report tree a ∷ [] else []

-- the constraints that s, which is statement i, adds to a table that is not new
abbrev pub additions_of : LinterSettings → Tree → ℕ → Stmt → List Violation
additions_of settings tree i s = if is_new_table settings.assume_in_transaction tree i (path_in s.body) then [] else flat_map (addition tree) (table_actions s)

abbrev pub reports_of_additions : Tree → Rules → LinterSettings → List Violation
reports_of_additions tree rules settings =
    table_of rule.ConstraintMissingNotValid (λ i. additions_of settings tree i (stmt_at tree i)) rules (length tree.stmts)

-- ---- all reports

abbrev pub reports_of_constraint_missing_not_valid : Tree → Rules → LinterSettings → List Violation
reports_of_constraint_missing_not_valid tree rules settings =
    reports_of_validations tree rules settings ++ reports_of_additions tree rules settings
