-- Column types (PostgreSQL manual, chapter 8).
use Rattle.std.specs.Prelude.{ℕ, ◌-◌, ◌==◌, nat_lt, Bool, true, false, not, ◌&&◌, if◌then◌else◌, List, [], ◌∷◌, length, take, drop, Option, Some, None}
use Rattle.std.specs.Option.{option_and_then}
use Rattle.sql_token.specs.sql_keyword.declared.words.Keyword.{Keyword}
use Rattle.sql_token.specs.sql_keyword.declared.words.Keyword.TheVariants as k
use Rattle.sql_token.specs.sql_keyword.declared.words.Other.TheVariants as others
use Rattle.sql_token.specs.sql_keyword.declared.words.TheConstants.Keyword as keyword
use Rattle.sql_token.specs.declared.token.Span.{Span}
use Rattle.sql_token.specs.declared.terminal.Symbol.{Symbol}
use Rattle.sql_token.specs.declared.terminal.Symbol.TheVariants as s
use Rattle.sql_token.specs.declared.terminal.Terminal.{Terminal}
use Rattle.sql_token.specs.Terminal.{is_keyword}
use Rattle.sql_token.specs.Depth.{span_of}
use Rattle.sql_tree.specs.declared.nodes.ColType.{ColType}
use Rattle.sql_tree.specs.declared.nodes.TyKind.{TyKind}
use Rattle.sql_tree.specs.declared.nodes.TyKind.TheVariants.{Varchar, Character, Bit, Double, Time, Timestamp, Interval, Path}
use Rattle.sql_tree.specs.Forms.{either_of}
use Rattle.sql_tree.specs.Split.{before, has, closing, begins_with, begins_list}
use Rattle.sql_tree.specs.Groups.{is_empty, is_list, is_open_square_symbol, path_first}
use Rattle.sql_tree.specs.ColumnMarks.{type_end}

-- how many terminals of a column after its name are its type
unfoldable pub type_len : List Terminal → ℕ
type_len ts = before type_end ts

-- ---- plain types

abbrev pub plain_of : TyKind → ℕ → Span → Option Span → Bool → ColType
plain_of kind name place args with_zone = record {
  kind = kind;
  whole = place;
  inner = place;
  name = name;
  args = args;
  array = false;
  with_zone = with_zone;
}

-- A bracket list of arguments, or nothing. Anything else is none of both.
unfoldable pub arguments : List Terminal → Option (Option Span)
arguments ts = if is_empty ts then Some None else (if is_list ts then Some (Some (span_of ts)) else None)

-- a type of this kind and name, which arguments may follow
abbrev pub with_arguments : TyKind → ℕ → List Terminal → List Terminal → Option ColType
with_arguments kind name ts rest =
    option_and_then (λ args. Some (plain_of kind name (span_of ts) args false)) (arguments rest)

-- what follows the word VARYING, where it is present
unfoldable pub after_varying : List Terminal → List Terminal
after_varying ts = if begins_with keyword.VARYING ts then drop 1 ts else ts

-- CHARACTER or CHAR, which is Varchar with VARYING
abbrev pub character_kind : List Terminal → TyKind
character_kind rest = if begins_with keyword.VARYING rest then Varchar else Character

unfoldable pub character_type : List Terminal → List Terminal → Option ColType
character_type ts rest = with_arguments (character_kind rest) (span_of ts).first ts (after_varying rest)

-- DOUBLE PRECISION
unfoldable pub double_type : List Terminal → List Terminal → Option ColType
double_type ts rest =
    if begins_with keyword.PRECISION rest && length rest == 1 then Some (plain_of Double (span_of ts).first (span_of ts) None false)
    else None

abbrev pub is_time_zone : List Terminal → Bool
is_time_zone [] = false
is_time_zone (t ∷ ts) = is_keyword keyword.TIME t && begins_with keyword.ZONE ts && length ts == 1

-- Whether the type is WITH TIME ZONE. None where something else than WITH or WITHOUT TIME ZONE, or nothing, is there.
unfoldable pub zone : List Terminal → Option Bool
zone [] = Some false
zone (t ∷ ts) =
    if is_time_zone ts then (if is_keyword keyword.WITH t then Some true else (if is_keyword keyword.WITHOUT t then Some false else None)) else None

-- how many terminals of what follows TIME or TIMESTAMP are its arguments
unfoldable pub list_len : List Terminal → ℕ
list_len ts = if begins_list ts then closing 0 0 ts else 0

abbrev pub maybe_span : List Terminal → Option Span
maybe_span ts = if is_empty ts then None else Some (span_of ts)

-- TIME or TIMESTAMP
unfoldable pub time_type : TyKind → List Terminal → List Terminal → Option ColType
time_type kind ts rest =
    option_and_then (λ with_zone. Some (plain_of kind (span_of ts).first (span_of ts) (maybe_span (take (list_len rest) rest)) with_zone))
    (zone (drop (list_len rest) rest))

-- a type that opens with this word, `rest` being what follows it
unfoldable pub word_type : Keyword → List Terminal → List Terminal → Option ColType
word_type (k.Other others.Varchar) ts rest = with_arguments Varchar (span_of ts).first ts rest
word_type (k.Other others.Character) ts rest = character_type ts rest
word_type (k.Other others.Char) ts rest = character_type ts rest
word_type (k.Other others.Bit) ts rest = with_arguments Bit (span_of ts).first ts (after_varying rest)
word_type (k.Other others.Double) ts rest = double_type ts rest
word_type (k.Other others.Time) ts rest = time_type Time ts rest
word_type (k.Other others.Timestamp) ts rest = time_type Timestamp ts rest
word_type (k.Other others.Interval) ts rest = Some (plain_of Interval (span_of ts).first (span_of ts) None false)
word_type _ ts rest = None

abbrev pub symbol_type : Symbol → List Terminal → List Terminal → Option ColType
symbol_type (s.Keyword w) ts rest = word_type w ts rest
symbol_type _ ts rest = None

-- a path, which arguments may follow
unfoldable pub path_type : List Terminal → Option ColType
path_type ts = option_and_then (λ r. with_arguments Path r.0.last ts r.1) (path_first ts)

-- A type that is no array. A listed word that nothing listed follows is a path, too.
unfoldable pub plain_type : List Terminal → Option ColType
plain_type [] = None
plain_type (t ∷ ts) = either_of (symbol_type t.symbol (t ∷ ts) ts) (path_type (t ∷ ts))

-- ---- arrays

-- anything but the beginning of a bracket group [ .. ]
unfoldable pub no_group : Option Terminal → Terminal → List Terminal → Bool
no_group earlier t after = not (is_open_square_symbol t.symbol)

-- from here on there are only bracket groups [ .. ]
unfoldable pub only_groups : Option Terminal → Terminal → List Terminal → Bool
only_groups earlier t after = not (has no_group (t ∷ after))

-- how many terminals come before the bracket groups [ .. ] that end a list
unfoldable pub before_groups : List Terminal → ℕ
before_groups ts = before only_groups ts

abbrev pub arrayed : List Terminal → ColType → ColType
arrayed ts inner = record inner { whole = span_of ts; array = true }

-- an array of the type that `inner` is
unfoldable pub array_of : List Terminal → List Terminal → Option ColType
array_of ts inner = option_and_then (λ ty. Some (arrayed ts ty)) (plain_type inner)

-- a type and its groups
unfoldable pub array_by_groups : List Terminal → Option ColType
array_by_groups ts = if nat_lt (before_groups ts) (length ts) then array_of ts (take (before_groups ts) ts) else None

-- whether the word comes last
unfoldable pub ends_with : Keyword → List Terminal → Bool
ends_with w ts = begins_with w (drop (length ts - 1) ts)

-- the word ARRAY and no more than one group
abbrev pub has_word_array : List Terminal → ℕ → Bool
has_word_array ts n = ends_with keyword.ARRAY (take n ts) && closing 0 0 (drop n ts) == length (drop n ts)

-- a type, the word ARRAY, and no more than one group
unfoldable pub array_by_word : List Terminal → Option ColType
array_by_word ts =
    if has_word_array ts (before_groups ts) then array_of ts (take (before_groups ts - 1) ts) else None

-- The type that these terminals are: None where they are none. Arrays come first.
unfoldable pub column_type : List Terminal → Option ColType
column_type ts = either_of (array_by_word ts) (either_of (array_by_groups ts) (plain_type ts))
