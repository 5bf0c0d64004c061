-- The laws of trees: a map of terminals that keeps what reading sees gives the same tree, with its numbers changed by the map's f.
use Rattle.std.specs.Prelude.{◌≡◌, ℕ, Bool, List, ◌∷◌, map}
use Rattle.std.specs.Option.{option_map}
use Rattle.sql_token.specs.declared.token.Span.{Span}
use Rattle.sql_token.specs.declared.terminal.Terminal.{Terminal}
use Rattle.sql_token.specs.Sound.{is_sound}
use Rattle.sql_tree.specs.declared.kinds.StmtKind.{StmtKind}
use Rattle.sql_tree.specs.Expression.{expression_of}
use Rattle.sql_tree.specs.ColumnType.{type_len, column_type}
use Rattle.sql_tree.specs.Constraint.{table_constraint}
use Rattle.sql_tree.specs.Column.{column, elements, drops_on_commit, domain_constraints}
use Rattle.sql_tree.specs.declared.actions.PieceList.{PieceList}
use Rattle.sql_tree.specs.ActionPieces.{pieces_of}
use Rattle.sql_tree.specs.Action.{action, actions_of}
use Rattle.sql_tree.specs.Write.{targets, view_definition, table_write}
use Rattle.sql_tree.specs.Statement.{form_of, statement}
use Rattle.law_renumber.specs.Moved.{span_moved, expr_moved, type_moved, constraint_moved, column_moved, elem_moved, piece_moved, action_moved, target_moved, view_moved, write_moved, form_moved, stmt_moved}
use Rattle.law_renumber.specs.Options.{ListKept, ActionKept, ActionsKept, FormKept, StatementKept}

-- ---- expressions, types, constraints and columns

abbrev pub ExpressionRenumbers : (Terminal → Terminal) → (ℕ → ℕ) → Type 0
ExpressionRenumbers g f =
    (ts : List Terminal) → expression_of (map g ts) ≡ expr_moved f (expression_of ts)

abbrev pub TypeLenRenumbers : (Terminal → Terminal) → (ℕ → ℕ) → Type 0
TypeLenRenumbers g f =
    (ts : List Terminal) → type_len (map g ts) ≡ type_len ts

abbrev pub TypeRenumbers : (Terminal → Terminal) → (ℕ → ℕ) → Type 0
TypeRenumbers g f =
    (ts : List Terminal) → column_type (map g ts) ≡ option_map (type_moved f) (column_type ts)

abbrev pub ConstraintRenumbers : (Terminal → Terminal) → (ℕ → ℕ) → Type 0
ConstraintRenumbers g f =
    (ts : List Terminal) →
    table_constraint (map g ts) ≡ option_map (constraint_moved f) (table_constraint ts)

abbrev pub ColumnRenumbers : (Terminal → Terminal) → (ℕ → ℕ) → Type 0
ColumnRenumbers g f =
    (ts : List Terminal) → column (map g ts) ≡ option_map (column_moved f) (column ts)

abbrev pub ElementsRenumber : (Terminal → Terminal) → (ℕ → ℕ) → Type 0
ElementsRenumber g f =
    (tail : List Terminal) → elements (map g tail) ≡ map (elem_moved f) (elements tail)

-- ON COMMIT DROP comes after a table's path or does not.
abbrev pub DropRenumbers : (Terminal → Terminal) → (ℕ → ℕ) → Type 0
DropRenumbers g f =
    (tail : List Terminal) → drops_on_commit (map g tail) ≡ drops_on_commit tail

abbrev pub DomainRenumbers : (Terminal → Terminal) → (ℕ → ℕ) → Type 0
DomainRenumbers g f =
    (tail : List Terminal) →
    domain_constraints (map g tail) ≡ option_map (map (constraint_moved f)) (domain_constraints tail)

-- ---- actions, queries and writes

abbrev pub ActionRenumbers : (Terminal → Terminal) → (ℕ → ℕ) → Type 0
ActionRenumbers g f =
    (kind : StmtKind) (ts : List Terminal) → ActionKept g ts →
    action kind (map g ts) ≡ option_map (action_moved f) (action kind ts)

abbrev pub PiecesRenumber : (Terminal → Terminal) → (ℕ → ℕ) → Type 0
PiecesRenumber g f =
    (list : PieceList) (ts : List Terminal) → ListKept g list ts →
    pieces_of list (map g ts) ≡ option_map (map (piece_moved f)) (pieces_of list ts)

abbrev pub ActionsRenumber : (Terminal → Terminal) → (ℕ → ℕ) → Type 0
ActionsRenumber g f =
    (kind : StmtKind) (tail : List Terminal) → ActionsKept g kind tail →
    actions_of kind (map g tail) ≡ option_map (map (action_moved f)) (actions_of kind tail)

abbrev pub TargetsRenumber : (Terminal → Terminal) → (ℕ → ℕ) → Type 0
TargetsRenumber g f =
    (ts : List Terminal) → targets (map g ts) ≡ map (target_moved f) (targets ts)

abbrev pub ViewRenumbers : (Terminal → Terminal) → (ℕ → ℕ) → Type 0
ViewRenumbers g f =
    (replace : Bool) (tail : List Terminal) →
    view_definition replace (map g tail) ≡ view_moved f (view_definition replace tail)

abbrev pub WriteRenumbers : (Terminal → Terminal) → (ℕ → ℕ) → Type 0
WriteRenumbers g f =
    (kind : StmtKind) (path : Span) (tail : List Terminal) →
    table_write kind (span_moved f path) (map g tail) ≡ write_moved f (table_write kind path tail)

-- ---- statements

abbrev pub SoundRenumbers : (Terminal → Terminal) → (ℕ → ℕ) → Type 0
SoundRenumbers g f =
    (ts : List Terminal) → is_sound (map g ts) ≡ is_sound ts

abbrev pub FormRenumbers : (Terminal → Terminal) → (ℕ → ℕ) → Type 0
FormRenumbers g f =
    (ts : List Terminal) → FormKept g ts →
    form_of (map g ts) ≡ option_map (form_moved f) (form_of ts)

-- A statement has a terminal: an empty list would begin at token 0, whatever the numbers are.
abbrev pub StatementRenumbers : (Terminal → Terminal) → (ℕ → ℕ) → Type 0
StatementRenumbers g f =
    (t : Terminal) (ts : List Terminal) → StatementKept g (t ∷ ts) →
    statement (map g (t ∷ ts)) ≡ option_map (stmt_moved f) (statement (t ∷ ts))
