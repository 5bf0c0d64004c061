-- Validations of constraints, and the transactions that they are in (PostgreSQL manual, ALTER TABLE, "ADD table_constraint
-- [ NOT VALID ]" and "VALIDATE CONSTRAINT").
use Rattle.std.specs.Prelude.{◌≡◌, ◌<◌, ◌⊎◌, ℕ, Bool, true, false, List, slice_get, Some}
use Rattle.lock_machine.specs.sql_token.declared.token.Span.{Span}
use Rattle.lock_machine.specs.sql_tree.declared.kinds.ActionKind.TheVariants.{AddConstraint, ValidateConstraint}
use Rattle.lock_machine.specs.sql_tree.declared.nodes.Action.{Action}
use Rattle.lock_machine.specs.sql_tree.declared.nodes.Constraint.{Constraint}
use Rattle.lock_machine.specs.sql_tree.Statement.{Tree}
use Rattle.lock_machine.specs.lint_node.Parts.{table_actions}
use Rattle.lock_machine.specs.lint_transaction.Names.{name_at}
use Rattle.lock_machine.specs.lint_transaction.Transaction.{stmt_at, ends_at, is_open}

-- ---- actions

-- action k of statement i, which is an ALTER TABLE
abbrev pub IsAction : Tree → ℕ → ℕ → Action → Type 0
IsAction tree i k a = slice_get (table_actions (stmt_at tree i)) k ≡ Some a

-- Action k of statement i validates the constraint of this full name.
pub record Validates (tree : Tree) (i k : ℕ) (name : List ℕ) : Type 0 where
  pub action : Action
  pub path : Span
  pub is_action : IsAction tree i k action
  pub is_validation : action.kind ≡ ValidateConstraint
  pub has_path : action.path ≡ Some path
  pub is_name : name_at tree path.last ≡ name

-- Action k of statement i adds a constraint of this full name, as not valid.
pub record AddsNotValid (tree : Tree) (i k : ℕ) (name : List ℕ) : Type 0 where
  pub action : Action
  pub constraint : Constraint
  pub number : ℕ
  pub is_action : IsAction tree i k action
  pub is_addition : action.kind ≡ AddConstraint
  pub has_constraint : action.constraint ≡ Some constraint
  pub is_not_valid : constraint.not_valid ≡ true
  pub has_name : constraint.name ≡ Some number
  pub is_name : name_at tree number ≡ name

-- ---- places

-- action l of statement j comes before action k of statement i
abbrev pub IsBefore : ℕ → ℕ → ℕ → ℕ → Type 0
IsBefore j l i k = (j < i) ⊎ ((j ≡ i) × (l < k))

-- Statements j and i are in one open transaction: it is open at both, and no statement between them ends it.
pub record InOneTransaction (assumed : Bool) (tree : Tree) (j i : ℕ) : Type 0 where
  pub is_open_there : is_open assumed tree j ≡ true
  pub is_open_here : is_open assumed tree i ≡ true
  pub no_end : (n : ℕ) → j < n → n < i → ends_at tree n ≡ false

-- ---- the whole

-- No constraint is validated in the open transaction that added it as not valid.
abbrev pub ValidatesApart : Bool → Tree → Type 0
ValidatesApart assumed tree =
    (j l i k : ℕ) (name : List ℕ) → AddsNotValid tree j l name → Validates tree i k name → IsBefore j l i k
    → InOneTransaction assumed tree j i → ⊥
