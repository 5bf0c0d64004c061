-- The actions of ALTER statements (PostgreSQL manual, part VI, SQL Commands).
use Rattle.std.specs.Prelude.{Bool, true, false, ◌||◌, if◌then◌else◌, List, [], ◌∷◌, map, Option, Some, None, is_some}
use Rattle.std.specs.Option.{option_and_then}
use Rattle.sql_token.specs.sql_keyword.declared.words.TheConstants.Keyword as keyword
use Rattle.sql_token.specs.declared.terminal.Symbol.{Symbol}
use Rattle.sql_token.specs.declared.terminal.Symbol.TheVariants as s
use Rattle.sql_token.specs.declared.terminal.Terminal.{Terminal}
use Rattle.sql_token.specs.Terminal.{is_name}
use Rattle.sql_token.specs.Depth.{span_of}
use Rattle.sql_tree.specs.declared.actions.PieceList.TheVariants as lists
use Rattle.sql_tree.specs.declared.actions.TheConstants.{OPTIONS, OTHER}
use Rattle.sql_tree.specs.declared.forms.Captures.{Captures}
use Rattle.sql_tree.specs.declared.kinds.ActionKind.{ActionKind}
use Rattle.sql_tree.specs.declared.kinds.ActionKind.TheVariants as a
use Rattle.sql_tree.specs.declared.kinds.StmtKind.{StmtKind}
use Rattle.sql_tree.specs.declared.kinds.StmtKind.TheVariants as stmt
use Rattle.sql_tree.specs.declared.nodes.Action.{Action}
use Rattle.sql_tree.specs.declared.nodes.Column.{Column}
use Rattle.sql_tree.specs.declared.nodes.Constraint.{Constraint}
use Rattle.sql_tree.specs.declared.nodes.Piece.{Piece}
use Rattle.sql_tree.specs.Forms.{State, ActionRow, after_word, either_of, first_whole}
use Rattle.sql_tree.specs.Split.{begins_with, comma, split, all_of}
use Rattle.sql_tree.specs.Column.{column}
use Rattle.sql_tree.specs.Constraint.{after_two, table_constraint}
use Rattle.sql_tree.specs.ActionPieces.{pieces_of, attributes, column_option}
use Rattle.sql_tree.specs.ActionRows.{first_rows_at, own_rows, general_rows_at}

-- ---- ADD and a table constraint

abbrev pub adding : List Terminal → Constraint → Action
adding ts constraint = record {
  kind = a.AddConstraint;
  first = (span_of ts).first;
  last = (span_of ts).last;
  name = None;
  path = None;
  word = None;
  guarded = false;
  placed = false;
  column = None;
  constraint = Some constraint;
  pieces = [];
}

abbrev pub adding_after : List Terminal → List Terminal → Option Action
adding_after ts rest = option_and_then (λ constraint. Some (adding ts constraint)) (table_constraint rest)

-- ADD and a table constraint
unfoldable pub add_constraint : List Terminal → Option Action
add_constraint ts = option_and_then (adding_after ts) (after_word keyword.ADD ts)

-- CHECK, NOT NULL or CONSTRAINT
unfoldable pub begins_domain_constraint : List Terminal → Bool
begins_domain_constraint ts = begins_with keyword.CHECK ts || begins_with keyword.CONSTRAINT ts || is_some (after_two keyword.NOT keyword.NULL ts)

abbrev pub after_add : Option (List Terminal) → Bool
after_add None = false
after_add (Some rest) = begins_domain_constraint rest

-- A domain takes only some constraints.
unfoldable pub takes_constraint : StmtKind → List Terminal → Bool
takes_constraint stmt.AlterDomain ts = after_add (after_word keyword.ADD ts)
takes_constraint kind ts = true

unfoldable pub added_constraint : StmtKind → List Terminal → Option Action
added_constraint kind ts = if takes_constraint kind ts then add_constraint ts else None

-- ---- an action that a row reads

-- what the column of an action is, by what its row leaves open: None where it must have one and has none
unfoldable pub column_in : ActionKind → List Terminal → Option (Option Column)
column_in a.AddColumn rest = option_and_then (λ column. Some (Some column)) (column rest)
column_in kind rest = Some None

-- its pieces: None where they are none of its kind
unfoldable pub pieces_in : ActionKind → List Terminal → Option (List Piece)
pieces_in a.AlterConstraint rest = pieces_of lists.ConstraintOptions rest
pieces_in a.AlterColumn rest = column_option rest
pieces_in a.SequenceOptions rest = pieces_of lists.SequenceOptions rest
pieces_in a.PolicyChange rest = pieces_of lists.PolicyParts rest
pieces_in a.Attributes rest = attributes rest
pieces_in kind rest = Some []

abbrev pub action_in : List Terminal → ActionKind → Captures → Option Column → List Piece → Action
action_in ts kind c column pieces = record {
  kind = kind;
  first = (span_of ts).first;
  last = (span_of ts).last;
  name = c.name;
  path = c.path;
  word = c.word;
  guarded = c.guarded;
  placed = c.placed;
  column = column;
  constraint = None;
  pieces = pieces;
}

-- the action of this kind, of which this is kept and left open
unfoldable pub built : List Terminal → ActionKind → State → Option Action
built ts kind s =
    option_and_then (λ column. option_and_then (λ pieces.
    Some (action_in ts kind s.kept column pieces)) (pieces_in kind s.left)) (column_in kind s.left)

-- by the first row that reads all of it: None also where that row is of a kind that it is none of
unfoldable pub by_rows : List ActionRow → List Terminal → Option Action
by_rows rows ts = option_and_then (λ f. built ts f.0 f.1) (first_whole rows ts)

-- ---- where an action begins

unfoldable pub after_name : List Terminal → Option (List Terminal)
after_name [] = None
after_name (t ∷ ts) = if is_name t then Some ts else None

abbrev pub list_or : Option (List Terminal) → List Terminal → List Terminal
list_or None other = other
list_or (Some rest) other = rest

-- after ALTER [COLUMN] name
unfoldable pub after_column : List Terminal → Option (List Terminal)
after_column ts = option_and_then (λ rest. after_name (list_or (after_word keyword.COLUMN rest) rest)) (after_word keyword.ALTER ts)

abbrev pub after_in_database : List Terminal → Option (List Terminal)
after_in_database ts = option_and_then after_name (after_two keyword.IN keyword.DATABASE ts)

-- after IN DATABASE name, where that is present
unfoldable pub after_database : List Terminal → List Terminal
after_database ts = list_or (after_in_database ts) ts

-- What the rows of a kind of statement read of an action, with which it then begins.
unfoldable pub own_part : StmtKind → List Terminal → Option (List Terminal)
own_part stmt.AlterView ts = after_column ts
own_part stmt.AlterRole ts = Some (after_database ts)
own_part stmt.AlterUser ts = Some (after_database ts)
own_part stmt.AlterDatabase ts = Some (after_database ts)
own_part stmt.AlterSystem ts = Some (after_database ts)
own_part kind ts = Some ts

-- ---- actions

abbrev pub first_symbol : List Terminal → Symbol
first_symbol [] = s.Other
first_symbol (t ∷ ts) = t.symbol

-- by the rows of a kind of statement
unfoldable pub own_action : StmtKind → List Terminal → Option Action
own_action kind ts = option_and_then (by_rows (own_rows kind)) (own_part kind ts)

-- by what is read of every kind of statement
unfoldable pub general_action : StmtKind → List Terminal → Option Action
general_action kind ts = either_of (added_constraint kind ts) (by_rows (general_rows_at (first_symbol ts)) ts)

unfoldable pub listed_action : StmtKind → List Terminal → Option Action
listed_action kind ts =
    either_of (by_rows (first_rows_at (first_symbol ts)) ts)
    (either_of (own_action kind ts) (general_action kind ts))

abbrev pub takes_options : StmtKind → Bool
takes_options stmt.AlterRole = true
takes_options stmt.AlterUser = true
takes_options stmt.AlterDatabase = true
takes_options kind = false

-- Options of roles and databases are what has no other form, after the word WITH where that is present.
unfoldable pub options : StmtKind → List Terminal → Option Action
options kind ts =
    if takes_options kind then by_rows (map (λ r. (r.0, r.1.now)) OPTIONS) (list_or (after_word keyword.WITH ts) ts) else None

unfoldable pub unlisted_action : StmtKind → List Terminal → Option Action
unlisted_action kind ts = either_of (options kind ts) (by_rows (map (λ r. (r.0, r.1.now)) OTHER) ts)

-- An action has at least one terminal. What has no listed form is some other action.
unfoldable pub action : StmtKind → List Terminal → Option Action
action kind [] = None
action kind (t ∷ ts) = either_of (listed_action kind (t ∷ ts)) (unlisted_action kind (t ∷ ts))

-- ---- lists of actions

-- The statements that have actions between commas. Of others the whole tail is one action.
abbrev pub has_several : StmtKind → Bool
has_several stmt.AlterTable = true
has_several stmt.AlterForeignTable = true
has_several stmt.AlterMaterializedView = true
has_several kind = false

unfoldable pub several_actions : StmtKind → List Terminal → Option (List Action)
several_actions kind tail = all_of (action kind) (split comma tail)

unfoldable pub one_action : StmtKind → List Terminal → Option (List Action)
one_action kind tail = all_of (action kind) (tail ∷ [])

-- The actions of an ALTER statement of this kind, by what its form leaves open: None where they are none.
unfoldable pub actions_of : StmtKind → List Terminal → Option (List Action)
actions_of kind tail = if has_several kind then several_actions kind tail else one_action kind tail

-- The tail of ALTER DEFAULT PRIVILEGES begins with GRANT or REVOKE: what comes before is its front.
abbrev pub begins_tail : StmtKind → List Terminal → Bool
begins_tail stmt.AlterDefaultPrivileges ts = begins_with keyword.GRANT ts || begins_with keyword.REVOKE ts
begins_tail kind ts = true

-- The actions of a tail that is given alone: None also where it is no tail of this kind.
unfoldable pub actions_alone : StmtKind → List Terminal → Option (List Action)
actions_alone kind tail = if begins_tail kind tail then actions_of kind tail else None
