-- What no tree lacks: the path of an ALTER TABLE, the column and the constraint of an action that adds one.
use Rattle.std.specs.Prelude.{◌≡◌, true, is_some}
use Rattle.std.specs.List.{All}
use Rattle.sql_tree.specs.declared.kinds.ActionKind.{ActionKind}
use Rattle.sql_tree.specs.declared.kinds.ActionKind.TheVariants as a
use Rattle.sql_tree.specs.declared.kinds.StmtKind.TheVariants as stmt
use Rattle.sql_tree.specs.declared.nodes.Action.{Action}
use Rattle.sql_tree.specs.declared.nodes.Body.{Body}
use Rattle.sql_tree.specs.declared.nodes.Body.TheVariants as body
use Rattle.sql_tree.specs.Statement.{Tree, IsTree}

-- the body of an ALTER statement that names a path
abbrev pub AltersPath : Body → Type 0
AltersPath (body.Alter path actions) = is_some path ≡ true
AltersPath _ = ⊥

-- Of an action of this kind, what it adds is known.
abbrev pub HasAdded : ActionKind → Action → Type 0
HasAdded a.AddColumn action = is_some action.column ≡ true
HasAdded a.AddConstraint action = is_some action.constraint ≡ true
HasAdded kind action = Unit {0}

abbrev pub ActionsHaveAdded : Body → Type 0
ActionsHaveAdded (body.Alter path actions) = All (λ action. HasAdded action.kind action) actions
ActionsHaveAdded _ = Unit {0}

-- Every ALTER TABLE of a tree has a path.
abbrev pub AlterTablesHavePaths : Type 0
AlterTablesHavePaths = (tree : Tree) → IsTree tree → All (λ s. s.kind ≡ stmt.AlterTable → AltersPath s.body) tree.stmts

-- Every action of a tree that adds a column has one, and every one that adds a constraint has one.
abbrev pub AddedIsKnown : Type 0
AddedIsKnown = (tree : Tree) → IsTree tree → All (λ s. ActionsHaveAdded s.body) tree.stmts
