-- The types that statements give to columns of tables, and what rules ask of a type without looking at its tokens
-- (PostgreSQL manual, chapter 8, and CREATE TABLE and ALTER TABLE).
use Rattle.std.specs.Prelude.{Bool, not, ◌&&◌, is_some, List, ◌++◌, Option, None, if◌then◌else◌, option_and_then, option_to_list}
use Rattle.std.specs.List.{flat_map}
use Rattle.sql_tree.specs.declared.kinds.PieceKind.TheVariants as piece
use Rattle.sql_tree.specs.declared.nodes.Action.{Action}
use Rattle.sql_tree.specs.declared.nodes.ColType.{ColType}
use Rattle.sql_tree.specs.declared.nodes.Elem.{Elem}
use Rattle.sql_tree.specs.declared.nodes.Elem.TheVariants as elem
use Rattle.sql_tree.specs.declared.nodes.Piece.{Piece}
use Rattle.sql_tree.specs.declared.nodes.Stmt.{Stmt}
use Rattle.sql_tree.specs.declared.nodes.TyKind.{TyKind}
use Rattle.sql_tree.specs.declared.nodes.TyKind.TheVariants as type
use Rattle.lint_node.specs.Parts.{added_column, created_elements, table_actions}
use Rattle.lint_node.specs.Same.{same_piece, same_type}

-- ---- where types are

-- the type of a column of a table's list
abbrev pub element_type : Elem → Option ColType
element_type (elem.Column c) = c.ty
element_type _ = None

-- the type of the column that an ADD COLUMN adds
abbrev pub added_type : Action → Option ColType
added_type a = option_and_then (λ c. c.ty) (added_column a)

-- the type that a SET DATA TYPE gives to a column
abbrev pub set_type : Piece → Option ColType
set_type p = if same_piece p.kind piece.SetType then p.ty else None

abbrev pub element_types : List Elem → List ColType
element_types es = flat_map (λ e. option_to_list (element_type e)) es

abbrev pub piece_types : List Piece → List ColType
piece_types ps = flat_map (λ p. option_to_list (set_type p)) ps

-- the types in an action: that of its column, then those in its pieces
abbrev pub action_types : Action → List ColType
action_types a = option_to_list (added_type a) ++ piece_types a.pieces

-- The column types of a statement, in the order of their places: those of the columns of a CREATE TABLE, and those in
-- the actions of an ALTER TABLE. Types of a foreign table, of CREATE TABLE AS and of a domain do not count.
unfoldable pub column_types : Stmt → List ColType
column_types s = element_types (created_elements s) ++ flat_map action_types (table_actions s)

-- ---- facts of a type

abbrev pub is_of_kind : TyKind → ColType → Bool
is_of_kind kind t = same_type t.kind kind

-- a list in brackets follows the type's name, as in varchar(10)
abbrev pub has_arguments : ColType → Bool
has_arguments t = is_some t.args

-- a timestamp that is not one WITH TIME ZONE (PostgreSQL manual, section 8.5)
abbrev pub is_without_zone : ColType → Bool
is_without_zone t = is_of_kind type.Timestamp t && not t.with_zone
