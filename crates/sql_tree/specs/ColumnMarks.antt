-- Where the type of a column ends, where each of its constraints begins, and where a default's expression ends
-- (PostgreSQL manual, CREATE TABLE, column_constraint).
use Rattle.std.specs.Prelude.{ℕ, ◌+◌, Bool, true, false, not, ◌&&◌, ◌||◌, if◌then◌else◌, List, [], ◌∷◌, Option, Some, None, is_some}
use Rattle.sql_token.specs.sql_keyword.declared.words.Keyword.{Keyword}
use Rattle.sql_token.specs.sql_keyword.declared.words.Keyword.TheVariants as k
use Rattle.sql_token.specs.sql_keyword.declared.words.Object.TheVariants as objects
use Rattle.sql_token.specs.sql_keyword.declared.words.Other.TheVariants as others
use Rattle.sql_token.specs.sql_keyword.declared.words.TheConstants.Keyword as keyword
use Rattle.sql_token.specs.declared.terminal.Symbol.{Symbol}
use Rattle.sql_token.specs.declared.terminal.Symbol.TheVariants as s
use Rattle.sql_token.specs.declared.terminal.Terminal.{Terminal}
use Rattle.sql_token.specs.Terminal.{is_keyword, is_name}
use Rattle.sql_tree.specs.declared.nodes.ConKind.{ConKind}
use Rattle.sql_tree.specs.declared.nodes.ConKind.TheVariants.{Check, Unique, PrimaryKey, NotNull, Null, Default, Generated, References}
use Rattle.sql_tree.specs.Split.{begins_with}

-- ---- ends

abbrev pub is_value_end_word : Keyword → Bool
is_value_end_word (k.Object objects.Constraint) = true
is_value_end_word (k.Other others.Not) = true
is_value_end_word (k.Other others.Null) = true
is_value_end_word (k.Other others.Check) = true
is_value_end_word (k.Other others.Default) = true
is_value_end_word (k.Other others.Generated) = true
is_value_end_word (k.Other others.Unique) = true
is_value_end_word (k.Other others.Primary) = true
is_value_end_word (k.Other others.References) = true
is_value_end_word (k.Other others.Deferrable) = true
is_value_end_word (k.Other others.Initially) = true
is_value_end_word (k.Other others.Enforced) = true
is_value_end_word (k.Other others.Compression) = true
is_value_end_word (k.Other others.Storage) = true
is_value_end_word _ = false

abbrev pub is_value_end_symbol : Symbol → Bool
is_value_end_symbol (s.Keyword w) = is_value_end_word w
is_value_end_symbol _ = false

-- a word that ends the expression of a DEFAULT
unfoldable pub value_end : Option Terminal → Terminal → List Terminal → Bool
value_end earlier t after = is_value_end_symbol t.symbol

abbrev pub is_type_end : Terminal → Bool
is_type_end t = is_value_end_symbol t.symbol || is_keyword keyword.COLLATE t || is_keyword keyword.USING t || is_keyword keyword.OPTIONS t

-- a word that ends the type of a column
unfoldable pub type_end : Option Terminal → Terminal → List Terminal → Bool
type_end earlier t after = is_type_end t

-- ---- what a constraint is, by the words that open it

-- this kind where the second of its words follows
abbrev pub kind_before : ConKind → Keyword → List Terminal → Option ConKind
kind_before kind w after = if begins_with w after then Some kind else None

abbrev pub kind_of_word : Keyword → List Terminal → Option ConKind
kind_of_word (k.Other others.Not) after = kind_before NotNull keyword.NULL after
kind_of_word (k.Other others.Primary) after = kind_before PrimaryKey keyword.KEY after
kind_of_word (k.Other others.Null) after = Some Null
kind_of_word (k.Other others.Check) after = Some Check
kind_of_word (k.Other others.Default) after = Some Default
kind_of_word (k.Other others.Generated) after = Some Generated
kind_of_word (k.Other others.Unique) after = Some Unique
kind_of_word (k.Other others.References) after = Some References
kind_of_word _ after = None

abbrev pub kind_of_symbol : Symbol → List Terminal → Option ConKind
kind_of_symbol (s.Keyword w) after = kind_of_word w after
kind_of_symbol _ after = None

-- the kind of the column's constraint that opens with t and what follows it
unfoldable pub kind_led : Terminal → List Terminal → Option ConKind
kind_led t after = kind_of_symbol t.symbol after

unfoldable pub first_kind : List Terminal → Option ConKind
first_kind [] = None
first_kind (t ∷ ts) = kind_led t ts

-- ---- where a constraint begins

abbrev pub follows : Keyword → Option Terminal → Bool
follows w None = false
follows w (Some t) = is_keyword w t

-- NULL and DEFAULT right after SET, and DEFAULT right after BY, belong to other words.
unfoldable pub is_bound : Option Terminal → Terminal → Bool
is_bound earlier t =
    is_keyword keyword.NULL t && follows keyword.SET earlier
    || is_keyword keyword.DEFAULT t && (follows keyword.SET earlier || follows keyword.BY earlier)

-- the kind of a constraint after its name
unfoldable pub kind_after_name : List Terminal → Option ConKind
kind_after_name [] = None
kind_after_name (t ∷ ts) = if is_name t then first_kind ts else None

-- The word CONSTRAINT begins a constraint where a name and the words of a kind follow it.
unfoldable pub constraint_start : Option Terminal → Terminal → List Terminal → Bool
constraint_start earlier t after =
    if is_keyword keyword.CONSTRAINT t then is_some (kind_after_name after)
    else is_some (kind_led t after) && not (is_bound earlier t)

-- How many terminals of the head follow the first word of a kind. The first token of a default's expression is
-- one of them: it begins no constraint, whatever word it is.
abbrev pub kind_head : Option ConKind → ℕ
kind_head (Some NotNull) = 1
kind_head (Some PrimaryKey) = 1
kind_head (Some Default) = 1
kind_head _ = 0

-- how many terminals of a constraint's head follow its first one
unfoldable pub constraint_head : Terminal → List Terminal → ℕ
constraint_head t after =
    if is_keyword keyword.CONSTRAINT t then kind_head (kind_after_name after) + 2 else kind_head (kind_led t after)
