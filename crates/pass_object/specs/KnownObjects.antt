-- Tables, types and sequences that earlier statements create (PostgreSQL manual, CREATE TABLE, CREATE TYPE and CREATE
-- SEQUENCE). IF NOT EXISTS creates nothing where the object exists, so a create that has it is no such statement.
use Rattle.std.specs.Prelude.{◌≡◌, ℕ, Bool, true, false, ◌&&◌, List, if◌then◌else◌, Option, Some, None}
use Rattle.lint_pass.specs.sql_token.declared.token.Span.{Span}
use Rattle.lint_pass.specs.sql_tree.declared.kinds.StmtKind.{StmtKind}
use Rattle.lint_pass.specs.sql_tree.declared.kinds.StmtKind.TheVariants as stmt
use Rattle.lint_pass.specs.sql_tree.declared.nodes.Body.{Body}
use Rattle.lint_pass.specs.sql_tree.declared.nodes.Body.TheVariants as body
use Rattle.lint_pass.specs.sql_tree.declared.nodes.Stmt.{Stmt}
use Rattle.lint_pass.specs.sql_tree.Path.{path_cuts}
use Rattle.lint_pass.specs.sql_tree.Statement.{Tree}
use Rattle.lint_pass.specs.lint_transaction.Earlier.{any_below}
use Rattle.lint_pass.specs.lint_transaction.SpanSet.{Spans, has_span}
use Rattle.lint_pass.specs.lint_transaction.Transaction.{same_path, stmt_at}
use Rattle.pass_object.specs.declared.known_objects.NamedObject.{NamedObject}
use Rattle.pass_object.specs.declared.known_objects.Object.{Object}
use Rattle.pass_object.specs.declared.known_objects.Object.TheVariants as object

-- ---- one statement

-- what a CREATE of the kind creates
abbrev pub object_created : StmtKind → Option Object
object_created stmt.CreateTable = Some object.Table
object_created stmt.CreateType = Some object.Type
object_created stmt.CreateSequence = Some object.Sequence
object_created _ = None

-- what a statement of the kind changes
abbrev pub object_changed : StmtKind → Option Object
object_changed stmt.AlterTable = Some object.Table
object_changed stmt.CreateIndex = Some object.Table
object_changed stmt.AlterType = Some object.Type
object_changed stmt.AlterSequence = Some object.Sequence
object_changed _ = None

abbrev pub named : Option Object → Option Span → Option NamedObject
named None path = None
named (Some o) None = None
named (Some o) (Some path) = Some (record { object = o; path = path })

abbrev pub path_created : Body → Option Span
path_created (body.Table temp guarded on_commit_drop word path elems) = if guarded then None else Some path
path_created (body.Made path guarded) = if guarded then None else Some path
path_created _ = None

abbrev pub path_changed : Body → Option Span
path_changed (body.Alter path actions) = path
path_changed (body.Index word unique concurrently guarded name path) = Some path
path_changed _ = None

-- the object that a statement creates without IF NOT EXISTS
abbrev pub created : Stmt → Option NamedObject
created s = named (object_created s.kind) (path_created s.body)

-- the object that a statement changes
abbrev pub changed : Stmt → Option NamedObject
changed s = named (object_changed s.kind) (path_changed s.body)

abbrev pub same_object : Object → Object → Bool
same_object object.Table object.Table = true
same_object object.Type object.Type = true
same_object object.Sequence object.Sequence = true
same_object _ _ = false

-- it is the object of this kind and path
abbrev pub is_named : Tree → Object → List (List ℕ) → Option NamedObject → Bool
is_named tree object path None = false
is_named tree object path (Some n) = same_object object n.object && same_path path (path_cuts tree.text tree.toks n.path)

-- ---- earlier statements

-- the statement creates the object of this kind and path
abbrev pub creates : Tree → Object → List (List ℕ) → Stmt → Bool
creates tree object path s = is_named tree object path (created s)

-- a statement before i creates it
abbrev pub is_known : Tree → Object → List (List ℕ) → ℕ → Bool
is_known tree object path i = any_below (λ j. creates tree object path (stmt_at tree j)) i

abbrev pub is_known_named : Tree → ℕ → Option NamedObject → Bool
is_known_named tree i None = false
is_known_named tree i (Some n) = is_known tree n.object (path_cuts tree.text tree.toks n.path) i

-- a statement before i creates the object that s changes
abbrev pub is_of_known : Tree → ℕ → Stmt → Bool
is_of_known tree i s = is_known_named tree i (changed s)

-- ---- what a walk knows

pub record Objects : Type 0 where
  pub tables : Spans
  pub types : Spans
  pub sequences : Spans

abbrev pub objects_of : Object → Objects → Spans
objects_of object.Table known = known.tables
objects_of object.Type known = known.types
objects_of object.Sequence known = known.sequences

abbrev pub has_object : Tree → Objects → Object → List (List ℕ) → Bool
has_object tree known object path = has_span tree (objects_of object known) path

abbrev pub has_named : Tree → Objects → Option NamedObject → Bool
has_named tree known None = false
has_named tree known (Some n) = has_object tree known n.object (path_cuts tree.text tree.toks n.path)

-- what is known is right before statement i
pub record IsKnowing (tree : Tree) (i : ℕ) (known : Objects) : Type 0 where
  pub known_here : (object : Object) (path : List (List ℕ)) → has_object tree known object path ≡ is_known tree object path i
