-- The parts of a statement that rules look at.
use Rattle.std.specs.Prelude.{Bool, false, not, ◌&&◌, List, [], if◌then◌else◌, Option, Some, None}
use Rattle.std.specs.List.{list_any}
use Rattle.sql_tree.specs.declared.kinds.ActionKind.{ActionKind}
use Rattle.sql_tree.specs.declared.kinds.ActionKind.TheVariants as action
use Rattle.sql_tree.specs.declared.kinds.StmtKind.TheVariants as stmt
use Rattle.sql_tree.specs.declared.nodes.Action.{Action}
use Rattle.sql_tree.specs.declared.nodes.Body.{Body}
use Rattle.sql_tree.specs.declared.nodes.Body.TheVariants as body
use Rattle.sql_tree.specs.declared.nodes.Column.{Column}
use Rattle.sql_tree.specs.declared.nodes.Constraint.{Constraint}
use Rattle.sql_tree.specs.declared.nodes.Elem.{Elem}
use Rattle.sql_tree.specs.declared.nodes.Stmt.{Stmt}
use Rattle.sql_tree.specs.Nodes.{actions_in, elements_in}
use Rattle.lint_node.specs.Same.{same_action, same_kind}

-- a CREATE statement with OR REPLACE
abbrev pub replaces_by : Body → Bool
replaces_by (body.View v) = v.replace
replaces_by (body.Code replace) = replace
replaces_by _ = false

-- some action is of the kind
abbrev pub has_action : ActionKind → List Action → Bool
has_action kind actions = list_any (λ a. same_action a.kind kind) actions

abbrev pub constraints_by : Option Column → List Constraint
constraints_by (Some c) = c.constraints
constraints_by None = []

-- the constraints of the column that an ADD COLUMN adds
abbrev pub new_constraints : Action → List Constraint
new_constraints a = if same_action a.kind action.AddColumn then constraints_by a.column else []

-- the column that an ADD COLUMN adds (PostgreSQL manual, ALTER TABLE)
abbrev pub added_column : Action → Option Column
added_column a = if same_action a.kind action.AddColumn then a.column else None

-- the constraint that an ADD of a constraint adds (PostgreSQL manual, ALTER TABLE, "ADD table_constraint")
abbrev pub added_constraint : Action → Option Constraint
added_constraint a = if same_action a.kind action.AddConstraint then a.constraint else None

-- The table is scanned when the constraint is added: it is neither NOT VALID nor by USING INDEX.
abbrev pub is_checked : Option Constraint → Bool
is_checked None = false
is_checked (Some c) = not c.not_valid && not c.by_index

-- the actions of an ALTER TABLE; those of any other ALTER do not count
abbrev pub table_actions : Stmt → List Action
table_actions s = if same_kind s.kind stmt.AlterTable then actions_in s.body else []

-- the elements of a table's list: of a CREATE TABLE, a CREATE TABLE AS or a CREATE FOREIGN TABLE
abbrev pub elements_of : Stmt → List Elem
elements_of s = elements_in s.body

-- the elements of the list of a CREATE TABLE (PostgreSQL manual, CREATE TABLE); those of the other two do not count
abbrev pub created_elements : Stmt → List Elem
created_elements s = if same_kind s.kind stmt.CreateTable then elements_of s else []
