-- Constraints of tables and of columns (PostgreSQL manual, CREATE TABLE, table_constraint and column_constraint).
use Rattle.std.specs.Prelude.{ℕ, Bool, true, false, ◌&&◌, ◌||◌, if◌then◌else◌, List, [], ◌∷◌, take, drop, Option, Some, None, is_some}
use Rattle.std.specs.Option.{option_and_then}
use Rattle.sql_token.specs.sql_keyword.declared.words.Keyword.{Keyword}
use Rattle.sql_token.specs.sql_keyword.declared.words.TheConstants.Keyword as keyword
use Rattle.sql_token.specs.declared.token.Span.{Span}
use Rattle.sql_token.specs.declared.terminal.Terminal.{Terminal}
use Rattle.sql_token.specs.Terminal.{is_keyword, is_name}
use Rattle.sql_token.specs.Depth.{span_of}
use Rattle.sql_tree.specs.declared.nodes.ConKind.{ConKind}
use Rattle.sql_tree.specs.declared.nodes.ConKind.TheVariants.{Check, Unique, PrimaryKey, Exclude, ForeignKey, NotNull, Default}
use Rattle.sql_tree.specs.declared.nodes.Constraint.{Constraint}
use Rattle.sql_tree.specs.declared.nodes.Expr.{Expr}
use Rattle.sql_tree.specs.Forms.{after_word}
use Rattle.sql_tree.specs.Split.{has, not_valid, is_open_round_symbol, all_of}
use Rattle.sql_tree.specs.Groups.{is_empty, inside_list}
use Rattle.sql_tree.specs.Pieces.{before_after_head, pieces}
use Rattle.sql_tree.specs.ColumnMarks.{kind_led, value_end, constraint_start, constraint_head}
use Rattle.sql_tree.specs.Expression.{expression_of}

-- ---- [CONSTRAINT name]

-- the number of a name, and what follows it
unfoldable pub named : List Terminal → Option (Option ℕ × List Terminal)
named [] = None
named (t ∷ ts) = if is_name t then Some (Some t.number, ts) else None

-- The name after CONSTRAINT: any word is one, key words too.
unfoldable pub constraint_name : List Terminal → Option (Option ℕ × List Terminal)
constraint_name [] = Some (None, [])
constraint_name (t ∷ ts) = if is_keyword keyword.CONSTRAINT t then named ts else Some (None, t ∷ ts)

-- ---- what a table's constraint is: CHECK, UNIQUE, PRIMARY KEY, EXCLUDE, FOREIGN KEY or NOT NULL, then anything

abbrev pub is_exclusion : List Terminal → Bool
is_exclusion [] = false
is_exclusion (t ∷ ts) = is_keyword keyword.USING t || is_open_round_symbol t.symbol

-- EXCLUDE may be a column's name too: it is a constraint only directly before USING or `(`.
unfoldable pub after_exclude : List Terminal → Option (List Terminal)
after_exclude ts = option_and_then (λ rest. if is_exclusion rest then Some rest else None) (after_word keyword.EXCLUDE ts)

-- what follows these two words, which come first
unfoldable pub after_two : Keyword → Keyword → List Terminal → Option (List Terminal)
after_two v w ts = option_and_then (after_word w) (after_word v ts)

-- this kind where its words are there, else another
abbrev pub kind_or : ConKind → Option (List Terminal) → Option (ConKind × List Terminal) → Option (ConKind × List Terminal)
kind_or kind None other = other
kind_or kind (Some rest) other = Some (kind, rest)

-- PRIMARY KEY, FOREIGN KEY or NOT NULL
unfoldable pub two_word_kind : List Terminal → Option (ConKind × List Terminal)
two_word_kind ts =
    kind_or PrimaryKey (after_two keyword.PRIMARY keyword.KEY ts)
    (kind_or ForeignKey (after_two keyword.FOREIGN keyword.KEY ts)
    (kind_or NotNull (after_two keyword.NOT keyword.NULL ts) None))

unfoldable pub constraint_kind : List Terminal → Option (ConKind × List Terminal)
constraint_kind ts =
    kind_or Check (after_word keyword.CHECK ts)
    (kind_or Unique (after_word keyword.UNIQUE ts)
    (kind_or Exclude (after_exclude ts) (two_word_kind ts)))

-- ---- how it is added

abbrev pub is_key : ConKind → Bool
is_key Unique = true
is_key PrimaryKey = true
is_key _ = false

-- UNIQUE or PRIMARY KEY, followed at once by USING INDEX
unfoldable pub by_index : ConKind → List Terminal → Bool
by_index kind rest = is_key kind && is_some (after_two keyword.USING keyword.INDEX rest)

-- ---- its expression

-- The expression of a DEFAULT, by what follows that word: its first terminal belongs to it, whatever it is.
unfoldable pub default_value : List Terminal → List Terminal
default_value rest = take (before_after_head value_end 1 None 0 0 rest) rest

-- What a constraint's expression is, by what follows the words of its kind: what the bracket list of a CHECK
-- holds, or what a DEFAULT gives. Nothing where there is none.
unfoldable pub value_in : ConKind → List Terminal → List Terminal
value_in Check rest = inside_list rest
value_in Default rest = default_value rest
value_in kind rest = []

abbrev pub value_of : List Terminal → Option Expr
value_of value = if is_empty value then None else Some (expression_of value)

abbrev pub value_span : List Terminal → Option Span
value_span value = if is_empty value then None else Some (span_of value)

-- ---- the whole

-- The constraint that all of `ts` is, by its name, its kind and what follows the words of the kind. Alone it is neither
-- not valid nor by index.
unfoldable pub constraint_in : List Terminal → Option ℕ → ConKind × List Terminal → Constraint
constraint_in ts name found = record {
  kind = found.0;
  name = name;
  first = (span_of ts).first;
  last = (span_of ts).last;
  not_valid = false;
  by_index = false;
  expr = value_of (value_in found.0 found.1);
  expr_span = value_span (value_in found.0 found.1);
}

-- A table's constraint is not valid where NOT VALID is in it, and by index where USING INDEX follows the words of a key.
abbrev pub table_constraint_in : List Terminal → Option ℕ → ConKind × List Terminal → Constraint
table_constraint_in ts name found =
    record (constraint_in ts name found) { not_valid = has not_valid ts; by_index = by_index found.0 found.1 }

abbrev pub constraint_after : List Terminal → Option ℕ × List Terminal → Option Constraint
constraint_after ts called = option_and_then (λ found. Some (table_constraint_in ts called.0 found)) (constraint_kind called.1)

-- The table constraint that these terminals are, all of them.
unfoldable pub table_constraint : List Terminal → Option Constraint
table_constraint ts = option_and_then (constraint_after ts) (constraint_name ts)

-- ---- of columns

-- what follows the words of a kind, by what follows the first one
abbrev pub after_kind : ConKind → List Terminal → List Terminal
after_kind NotNull ts = drop 1 ts
after_kind PrimaryKey ts = drop 1 ts
after_kind _ ts = ts

-- the kind of a column's constraint, and what follows its words
unfoldable pub column_kind : List Terminal → Option (ConKind × List Terminal)
column_kind [] = None
column_kind (t ∷ ts) = option_and_then (λ kind. Some (kind, after_kind kind ts)) (kind_led t ts)

abbrev pub is_default : ConKind → Bool
is_default Default = true
is_default _ = false

-- A DEFAULT has an expression.
abbrev pub column_constraint_in : List Terminal → Option ℕ → ConKind × List Terminal → Option Constraint
column_constraint_in ts name found =
    if is_default found.0 && is_empty found.1 then None else Some (constraint_in ts name found)

abbrev pub column_constraint_after : List Terminal → Option ℕ × List Terminal → Option Constraint
column_constraint_after ts called = option_and_then (column_constraint_in ts called.0) (column_kind called.1)

-- The constraint of a column or of a domain that these terminals are, all of them: neither not valid nor by index,
-- whatever words are in it.
unfoldable pub column_constraint : List Terminal → Option Constraint
column_constraint ts = option_and_then (column_constraint_after ts) (constraint_name ts)

-- The constraints of a column or of a domain, after a terminal where one is given: None where a DEFAULT has no
-- expression.
unfoldable pub column_constraints : Option Terminal → List Terminal → Option (List Constraint)
column_constraints earlier ts = all_of column_constraint (pieces constraint_start constraint_head earlier ts)
