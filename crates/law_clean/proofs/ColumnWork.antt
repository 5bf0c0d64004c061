-- The constraints of a new column of which nothing is reported are no work on an old table.
use Rattle.std.proofs.Common.{◌≡◌, ◌∙◌, sym, refl, Bool, true, false, ◌&&◌, not, List, [], ◌∷◌, Option, Some, None}
use Rattle.std.proofs.lemmas.Bool.{and_left, and_parts, not-true, not_from_true, or_from}
use Rattle.std.specs.List.{AllByRecursion, list_any}
use Rattle.std.specs.Prelude.{if◌then◌else◌}
use Rattle.lock_machine.specs.sql_tree.declared.nodes.ConKind.{ConKind}
use Rattle.lock_machine.specs.sql_tree.declared.nodes.ConKind.TheVariants as con
use Rattle.lock_machine.specs.sql_tree.declared.nodes.Constraint.{Constraint}
use Rattle.lock_machine.specs.sql_tree.declared.nodes.Expr.{Expr}
use Rattle.lock_machine.specs.sql_tree.Statement.{Tree}
use Rattle.lock_machine.specs.lint_base.declared.settings.LinterSettings.{LinterSettings}
use Rattle.lock_machine.specs.lint_base.declared.violation.Violation.{Violation}
use Rattle.lock_machine.specs.lint_node.Same.{same_constraint}
use Rattle.lock_machine.specs.Plain.{has_array_in, is_array_default}
use Rattle.lock_machine.specs.Steady.{is_steady}
use Rattle.lock_machine.specs.Works.{fills_rows, is_early, reads_rows, reads_rows_by}
use Rattle.pass_groups.specs.pass_constraint.AddedConstraints as added
use Rattle.pass_groups.specs.pass_constraint.AddingFieldWithDefault.{default_report, generated_report, is_excused, on_constraint, on_default, value_span}
use Rattle.pass_groups.specs.pass_constraint.Volatility.{is_non_volatile_or_const}
use Rattle.law_clean.proofs.Nothing.{any_and, each_from, empty_unless, not_both, some_is_none}
use Rattle.law_clean.proofs.SteadyWithoutArrays.{steady_without_array}

-- what is reported of a constraint of this kind as a default or a generated value
abbrev pub value_reports : LinterSettings → Tree → ConKind → Constraint → List Violation
value_reports settings tree kind c =
    if same_constraint kind con.Default
    then on_default settings tree c
    else (if same_constraint kind con.Generated then generated_report tree c ∷ [] else [])

-- Nothing is reported of a constraint of this kind, in a plain text, on a table that is new or not.
pub record IsQuietConstraint (settings : LinterSettings) (tree : Tree) (new : Bool) (kind : ConKind) (c : Constraint) : Type 0 where
  pub value : value_reports settings tree kind c ≡ []
  pub reference : (same_constraint kind con.References && true) ≡ false
  pub primary_key : (same_constraint kind con.PrimaryKey && not new) ≡ false
  pub unique : (same_constraint kind con.Unique && true) ≡ false
  pub array : (same_constraint kind con.Default && has_array_in c.expr) ≡ false

default_work : (settings : LinterSettings) (tree : Tree) (new : Bool) (value : Option Expr) → has_array_in value ≡ false → is_excused settings tree value ≡ true
    → (fills_rows settings tree value && not new) ≡ false
default_work settings tree new None array excused = not_both (sym (and_parts (not (is_early settings)) false excused).1)
default_work settings tree new (Some x) array excused =
    let both = and_parts (not (is_early settings)) (is_non_volatile_or_const settings.non_volatile tree x) excused in
    let steady = steady_without_array settings.non_volatile tree x array ∙ both.1 in
    and_left (fills_rows settings tree (Some x)) (not new)
    (or_from (is_early settings) (not (is_steady settings.non_volatile tree x)) (not-true (is_early settings) both.0)
    (not_from_true (is_steady settings.non_volatile tree x) steady))

constraint_work : (settings : LinterSettings) (tree : Tree) (new : Bool) (kind : ConKind) (c : Constraint) → IsQuietConstraint settings tree new kind c
    → (reads_rows_by settings tree kind c.expr && not new) ≡ false
unfolding same_constraint
constraint_work settings tree new con.Unique c q = not_both q.unique
constraint_work settings tree new con.PrimaryKey c q = q.primary_key
constraint_work settings tree new con.References c q = not_both q.reference
constraint_work settings tree new con.Generated c q = some_is_none (generated_report tree c) [] q.value
constraint_work settings tree new con.Default c q =
    default_work settings tree new c.expr q.array
    (empty_unless (is_excused settings tree c.expr) (default_report tree (value_span c c.expr_span)) q.value)
constraint_work settings tree new _ c q = refl

abbrev pub AreQuiet : LinterSettings → Tree → Bool → List Constraint → Type 0
AreQuiet settings tree new cs = AllByRecursion (λ c. IsQuietConstraint settings tree new c.kind c) cs

pub column_work : (settings : LinterSettings) (tree : Tree) (new : Bool) (cs : List Constraint) → AreQuiet settings tree new cs → (list_any (reads_rows settings tree) cs && not new) ≡ false
column_work settings tree new cs q =
    any_and (reads_rows settings tree) (not new) cs
    (each_from (λ c. IsQuietConstraint settings tree new c.kind c) (λ c. (reads_rows settings tree c && not new) ≡ false)
    (λ c q. constraint_work settings tree new c.kind c q) cs q)

-- five facts of each constraint are one
pub quiet_constraints : (settings : LinterSettings) (tree : Tree) (new : Bool) (cs : List Constraint)
    → AllByRecursion (λ c. on_constraint settings tree c ≡ []) cs
    → AllByRecursion (λ c. added.is_of_column added.row_of_adding_foreign_key_constraint new c ≡ false) cs
    → AllByRecursion (λ c. added.is_of_column added.row_of_adding_serial_primary_key_field new c ≡ false) cs
    → AllByRecursion (λ c. added.is_of_column added.row_of_disallowed_unique_constraint new c ≡ false) cs
    → AllByRecursion (λ c. is_array_default c ≡ false) cs
    → AreQuiet settings tree new cs
quiet_constraints settings tree new [] v r p u a = tt
quiet_constraints settings tree new (c ∷ cs) v r p u a = (
  record { value = v.0; reference = r.0; primary_key = p.0; unique = u.0; array = a.0 },
  quiet_constraints settings tree new cs v.1 r.1 p.1 u.1 a.1,
)
