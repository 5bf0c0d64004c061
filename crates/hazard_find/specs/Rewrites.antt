-- Statements and actions that write a whole table anew, or build its indexes anew, while nobody can use it (PostgreSQL manual,
-- the pages of VACUUM, CLUSTER, REINDEX and ALTER TABLE).
use Rattle.std.specs.Prelude.{ℕ, Bool, true, false, not, ◌&&◌, ◌||◌, List, [], ◌∷◌, codes, Option, Some, None, if◌then◌else◌}
use Rattle.std.specs.List.{list_any}
use Rattle.lint_ignore.specs.sql_keyword.declared.words.TheConstants.Keyword as keyword
use Rattle.lint_ignore.specs.sql_token.declared.token.Span.{Span}
use Rattle.lint_ignore.specs.sql_tree.declared.kinds.ActionKind.{ActionKind}
use Rattle.lint_ignore.specs.sql_tree.declared.kinds.ActionKind.TheVariants as action
use Rattle.lint_ignore.specs.sql_tree.declared.kinds.PieceKind.TheVariants as piece
use Rattle.lint_ignore.specs.sql_tree.declared.nodes.Action.{Action}
use Rattle.lint_ignore.specs.sql_tree.declared.nodes.Body.{Body}
use Rattle.lint_ignore.specs.sql_tree.declared.nodes.Body.TheVariants as body
use Rattle.lint_ignore.specs.sql_tree.declared.nodes.ColType.{ColType}
use Rattle.lint_ignore.specs.sql_tree.declared.nodes.Piece.{Piece}
use Rattle.lint_ignore.specs.sql_tree.declared.nodes.Stmt.{Stmt}
use Rattle.lint_ignore.specs.sql_tree.Statement.{Tree}
use Rattle.lint_node.specs.ColumnTypes.{added_type}
use Rattle.lint_node.specs.Plain.{is_system}
use Rattle.lint_node.specs.Same.{same_action, same_piece}
use Rattle.lint_transaction.specs.Names.{is_one_name}
use Rattle.hazard_find.specs.Look.{begins}
use Rattle.hazard_find.specs.Refused.{moves}
use Rattle.hazard_find.specs.declared.here.Here.{Here}

-- ---- statements

-- The message for a statement that rewrites a table. VACUUM cannot run in a transaction block, so its tables are always old.
abbrev pub rewrites_by : Here → Body → Option (List ℕ)
rewrites_by here (body.Vacuum full tables) =
    if full && not here.has_repack then Some (codes "`vacuum full` rewrites the whole table while nobody can read or write it") else None
rewrites_by here (body.Cluster table index) =
    if here.is_old && not here.has_repack then Some (codes "`cluster` rewrites the whole table while nobody can read or write it") else None
rewrites_by here (body.Reindex aim word concurrent valued path) =
    if is_system aim then Some (codes "`reindex system` rebuilds the indexes of the system catalogs while nobody can use them") else None
rewrites_by here _ = None

unfoldable pub rewrites : Here → Stmt → Option (List ℕ)
rewrites here s = rewrites_by here s.body

-- ---- actions of ALTER TABLE

unfoldable pub sets_logged : Tree → Action → Bool
sets_logged tree a = begins tree (keyword.SET ∷ keyword.LOGGED ∷ []) a.first a.last

unfoldable pub sets_unlogged : Tree → Action → Bool
sets_unlogged tree a = begins tree (keyword.SET ∷ keyword.UNLOGGED ∷ []) a.first a.last

unfoldable pub sets_access_method : Tree → Action → Bool
sets_access_method tree a = begins tree (keyword.SET ∷ keyword.ACCESS ∷ keyword.METHOD ∷ []) a.first a.last

unfoldable pub other_rewrites : Tree → Action → Option (List ℕ)
other_rewrites tree a =
    if sets_logged tree a then Some (codes "`set logged` rewrites the whole table while nobody can read or write it")
    else (if sets_unlogged tree a then Some (codes "`set unlogged` rewrites the whole table while nobody can read or write it")
    else (if moves tree a then Some (codes "`set tablespace` copies the whole table while nobody can read or write it")
    else (if sets_access_method tree a then Some (codes "`set access method` rewrites the whole table while nobody can read or write it")
    else None)))

unfoldable pub sets_expression : List Piece → Bool
sets_expression pieces = list_any (λ p. same_piece p.kind piece.SetExpression) pieces

abbrev pub column_rewrites : List Piece → Option (List ℕ)
column_rewrites pieces =
    if sets_expression pieces then Some (codes "`set expression` rewrites the whole table while nobody can read or write it") else None

abbrev pub action_rewrites_by : Tree → ActionKind → Action → Option (List ℕ)
action_rewrites_by tree action.Other a = other_rewrites tree a
action_rewrites_by tree action.AlterColumn a = column_rewrites a.pieces
action_rewrites_by tree _ a = None

-- the message for an action that rewrites a table, except ADD COLUMN
unfoldable pub action_rewrites : Tree → Action → Option (List ℕ)
action_rewrites tree a = action_rewrites_by tree a.kind a

-- ---- serial columns

unfoldable pub is_word_serial : Tree → Span → Bool
is_word_serial tree path =
    is_one_name tree path (codes "serial") || is_one_name tree path (codes "smallserial") || is_one_name tree path (codes "bigserial")

unfoldable pub is_number_serial : Tree → Span → Bool
is_number_serial tree path =
    is_one_name tree path (codes "serial4") || is_one_name tree path (codes "serial2") || is_one_name tree path (codes "serial8")

-- serial, smallserial and bigserial, and their other names
abbrev pub is_serial_path : Tree → Span → Bool
is_serial_path tree path = is_word_serial tree path || is_number_serial tree path

abbrev pub is_serial_type : Tree → Option ColType → Bool
is_serial_type tree None = false
is_serial_type tree (Some t) = not t.array && is_serial_path tree t.inner

-- the action adds a column of a serial type
unfoldable pub adds_serial : Tree → Action → Bool
adds_serial tree a = is_serial_type tree (added_type a)
