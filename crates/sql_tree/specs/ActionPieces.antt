-- The pieces of ALTER actions (PostgreSQL manual, ALTER TABLE, ALTER SEQUENCE, ALTER POLICY and ALTER TYPE).
use Rattle.std.specs.Prelude.{ℕ, Bool, true, false, not, ◌&&◌, ◌||◌, if◌then◌else◌, List, [], ◌∷◌, map, take, Option, Some, None}
use Rattle.std.specs.Option.{option_and_then}
use Rattle.sql_token.specs.sql_keyword.declared.words.TheConstants.Keyword as keyword
use Rattle.sql_token.specs.declared.terminal.Symbol.{Symbol}
use Rattle.sql_token.specs.declared.terminal.Symbol.TheVariants as s
use Rattle.sql_token.specs.declared.terminal.Terminal.{Terminal}
use Rattle.sql_token.specs.Terminal.{is_keyword, is_dot}
use Rattle.sql_token.specs.Depth.{span_of}
use Rattle.sql_tree.specs.declared.actions.PieceList.{PieceList}
use Rattle.sql_tree.specs.declared.actions.PieceList.TheVariants as lists
use Rattle.sql_tree.specs.declared.actions.TheConstants.{COLUMN_OPTION, OTHER_OPTION, IDENTITY_OPTION, CONSTRAINT_OPTION, SEQUENCE_OPTION, POLICY_PART, ATTRIBUTE}
use Rattle.sql_tree.specs.declared.forms.Part.{Part}
use Rattle.sql_tree.specs.declared.forms.WordClass.TheVariants as class
use Rattle.sql_tree.specs.declared.kinds.PieceKind.{PieceKind}
use Rattle.sql_tree.specs.declared.kinds.PieceKind.TheVariants as p
use Rattle.sql_tree.specs.declared.nodes.ColType.{ColType}
use Rattle.sql_tree.specs.declared.nodes.Piece.{Piece}
use Rattle.sql_tree.specs.ColumnType.{type_len, column_type}
use Rattle.sql_tree.specs.Forms.{either_of, first_whole}
use Rattle.sql_tree.specs.Split.{begins_with, comma, split, chunks, before, closing, all_of}
use Rattle.sql_tree.specs.Words.{is_of_class}

-- ---- what begins a further piece, none at the beginning of a list

-- A word right after NO or a dot begins nothing.
unfoldable pub sequence_option : Option Terminal → Terminal → List Terminal → Bool
sequence_option None t after = false
sequence_option (Some earlier) t after = is_of_class class.SequenceOption t && not (is_keyword keyword.NO earlier || is_dot earlier)

-- RESTART right after SET begins nothing.
unfoldable pub identity_option : Option Terminal → Terminal → List Terminal → Bool
identity_option None t after = false
identity_option (Some earlier) t after = is_keyword keyword.SET t || (is_keyword keyword.RESTART t && not (is_keyword keyword.SET earlier))

-- TO, USING or WITH CHECK
unfoldable pub policy_part : Option Terminal → Terminal → List Terminal → Bool
policy_part None t after = false
policy_part (Some earlier) t after = is_keyword keyword.TO t || is_keyword keyword.USING t || (is_keyword keyword.WITH t && begins_with keyword.CHECK after)

-- ---- how long a piece is

abbrev pub is_word_symbol : Symbol → Bool
is_word_symbol (s.Keyword w) = true
is_word_symbol s.Word = true
is_word_symbol _ = false

-- NOT ENFORCED, NOT DEFERRABLE, or INITIALLY with a word after it
unfoldable pub is_pair : Terminal → Terminal → Bool
is_pair t u =
    (is_keyword keyword.NOT t && (is_keyword keyword.ENFORCED u || is_keyword keyword.DEFERRABLE u))
    || (is_keyword keyword.INITIALLY t && is_word_symbol u.symbol)

abbrev pub begins_pair : List Terminal → Bool
begins_pair (t ∷ u ∷ ts) = is_pair t u
begins_pair _ = false

-- A pair of words is one piece. All else is a piece of its own: a terminal, or a bracket list.
unfoldable pub constraint_option_len : List Terminal → ℕ
constraint_option_len ts = if begins_pair ts then 2 else closing 0 0 ts

-- how many terminals the first piece has
unfoldable pub piece_len : PieceList → List Terminal → ℕ
piece_len lists.ConstraintOptions ts = constraint_option_len ts
piece_len lists.IdentityOptions ts = before identity_option ts
piece_len lists.SequenceOptions ts = before sequence_option ts
piece_len lists.PolicyParts ts = before policy_part ts

-- ---- pieces

-- The type of SET TYPE ends as a column's does.
unfoldable pub type_in : PieceKind → List Terminal → Option ColType
type_in p.SetType rest = column_type (take (type_len rest) rest)
type_in kind rest = None

-- SET GENERATED ALWAYS
unfoldable pub is_always : PieceKind → List Terminal → Bool
is_always p.SetGenerated rest = begins_with keyword.ALWAYS rest
is_always kind rest = false

-- the piece of this kind, of which this is left open
abbrev pub piece_in : List Terminal → PieceKind → List Terminal → Piece
piece_in ts kind rest = record {
  kind = kind;
  first = (span_of ts).first;
  last = (span_of ts).last;
  ty = type_in kind rest;
  always = is_always kind rest;
}

abbrev pub PieceRow : Type 0
PieceRow = PieceKind × List Part

-- the piece that these terminals are, by the first row that reads them all
unfoldable pub piece_by : List PieceRow → List Terminal → Option Piece
piece_by rows ts = option_and_then (λ f. Some (piece_in ts f.0 f.1.left)) (first_whole rows ts)

unfoldable pub piece_rows : PieceList → List PieceRow
piece_rows lists.ConstraintOptions = map (λ r. (r.0, r.1.now)) CONSTRAINT_OPTION
piece_rows lists.IdentityOptions = map (λ r. (r.0, r.1.now)) IDENTITY_OPTION
piece_rows lists.SequenceOptions = map (λ r. (r.0, r.1.now)) SEQUENCE_OPTION
piece_rows lists.PolicyParts = map (λ r. (r.0, r.1.now)) POLICY_PART

-- The pieces of a list: None where it does not begin with one, or one is none of its kind.
unfoldable pub pieces_of : PieceList → List Terminal → Option (List Piece)
pieces_of list ts = all_of (piece_by (piece_rows list)) (chunks (piece_len list) ts)

-- the pieces of ALTER TYPE, between commas of depth 0
unfoldable pub attributes : List Terminal → Option (List Piece)
attributes ts = all_of (piece_by (map (λ r. (r.0, r.1.now)) ATTRIBUTE)) (split comma ts)

-- ---- options of a column

abbrev pub alone : Option Piece → Option (List Piece)
alone None = None
alone (Some piece) = Some (piece ∷ [])

unfoldable pub one_option : List Terminal → Option (List Piece)
one_option ts = alone (piece_by (map (λ r. (r.0, r.1.now)) COLUMN_OPTION) ts)

unfoldable pub other_option : List Terminal → Option (List Piece)
other_option ts = alone (piece_by (map (λ r. (r.0, r.1.now)) OTHER_OPTION) ts)

-- A listed option is one piece, options of an identity column are a list, and anything else is one piece.
unfoldable pub column_option : List Terminal → Option (List Piece)
column_option ts = either_of (one_option ts) (either_of (pieces_of lists.IdentityOptions ts) (other_option ts))
