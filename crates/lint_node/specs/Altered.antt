-- What an ALTER TABLE alters: the events of a history of tables (PostgreSQL manual, ALTER TABLE).
use Rattle.std.specs.Prelude.{List, [], map, Option, Some, None, if◌then◌else◌}
use Rattle.sql_tree.specs.sql_token.declared.token.Span.{Span}
use Rattle.sql_tree.specs.declared.kinds.StmtKind.TheVariants as stmt
use Rattle.sql_tree.specs.declared.nodes.Action.{Action}
use Rattle.sql_tree.specs.declared.nodes.Body.{Body}
use Rattle.sql_tree.specs.declared.nodes.Body.TheVariants as body
use Rattle.sql_tree.specs.declared.nodes.Stmt.{Stmt}
use Rattle.lint_node.specs.Parts.{table_actions}
use Rattle.lint_node.specs.Same.{same_kind}

-- an action of an ALTER TABLE, and the path of the table
pub record Altered : Type 0 where
  pub table : Span
  pub action : Action

abbrev pub altered : Span → Action → Altered
altered table a = record { table = table; action = a }

-- the path of the object that an ALTER statement alters
abbrev pub path_in : Body → Option Span
path_in (body.Alter path actions) = path
path_in _ = None

-- the path of the table that an ALTER TABLE alters
abbrev pub altered_path : Stmt → Option Span
altered_path s = if same_kind s.kind stmt.AlterTable then path_in s.body else None

-- actions of the table of this path; without a path there are no events
abbrev pub altered_all : Option Span → List Action → List Altered
altered_all None actions = []
altered_all (Some table) actions = map (altered table) actions

-- the events of a statement: the actions of an ALTER TABLE, in order, each with the table's path
abbrev pub altered_by : Stmt → List Altered
altered_by s = altered_all (altered_path s) (table_actions s)
