-- Columns, the elements of a table's list, and domains (PostgreSQL manual, CREATE TABLE and CREATE DOMAIN).
use Rattle.std.specs.Prelude.{Bool, true, false, ◌&&◌, ◌||◌, if◌then◌else◌, List, [], ◌∷◌, map, take, Option, Some, None}
use Rattle.std.specs.Option.{option_and_then}
use Rattle.sql_token.specs.sql_keyword.declared.words.Keyword.{Keyword}
use Rattle.sql_token.specs.sql_keyword.declared.words.Keyword.TheVariants as k
use Rattle.sql_token.specs.sql_keyword.declared.words.Object.TheVariants as objects
use Rattle.sql_token.specs.sql_keyword.declared.words.Other.TheVariants as others
use Rattle.sql_token.specs.sql_keyword.declared.words.TheConstants.Keyword as keyword
use Rattle.sql_token.specs.declared.terminal.Symbol.{Symbol}
use Rattle.sql_token.specs.declared.terminal.Symbol.TheVariants as s
use Rattle.sql_token.specs.declared.terminal.Terminal.{Terminal}
use Rattle.sql_token.specs.Terminal.{is_keyword, is_name}
use Rattle.sql_tree.specs.declared.nodes.ColType.{ColType}
use Rattle.sql_tree.specs.declared.nodes.Column.{Column}
use Rattle.sql_tree.specs.declared.nodes.Constraint.{Constraint}
use Rattle.sql_tree.specs.declared.nodes.Elem.{Elem}
use Rattle.sql_tree.specs.declared.nodes.Elem.TheVariants as elem
use Rattle.sql_tree.specs.Split.{comma, split, has, on_commit_drop}
use Rattle.sql_tree.specs.Groups.{is_empty, inside_list}
use Rattle.sql_tree.specs.ColumnType.{type_len, column_type}
use Rattle.sql_tree.specs.Constraint.{is_exclusion, table_constraint, column_constraints}

-- ---- columns

-- the type that comes first
abbrev pub type_in : List Terminal → Option ColType
type_in ts = column_type (take (type_len ts) ts)

abbrev pub column_with : Terminal → List Terminal → List Constraint → Column
column_with t ts constraints = record { name = t.number; ty = type_in ts; constraints = constraints }

-- The column that these terminals are: a name, a type, which may be missing, and constraints.
unfoldable pub column : List Terminal → Option Column
column [] = None
column (t ∷ ts) =
    if is_name t then option_and_then (λ constraints. Some (column_with t ts constraints)) (column_constraints (Some t) ts)
    else None

-- ---- elements

abbrev pub is_constraint_word : Keyword → Bool
is_constraint_word (k.Object objects.Constraint) = true
is_constraint_word (k.Other others.Check) = true
is_constraint_word (k.Other others.Unique) = true
is_constraint_word (k.Other others.Primary) = true
is_constraint_word (k.Object objects.Foreign) = true
is_constraint_word (k.Other others.Not) = true
is_constraint_word _ = false

abbrev pub is_constraint_symbol : Symbol → Bool
is_constraint_symbol (s.Keyword w) = is_constraint_word w
is_constraint_symbol _ = false

-- Whether a constraint of the table is led by t. EXCLUDE may be a column's name too.
unfoldable pub leads_constraint : Terminal → List Terminal → Bool
leads_constraint t after = is_constraint_symbol t.symbol || is_keyword keyword.EXCLUDE t && is_exclusion after

abbrev pub constraint_element : Option Constraint → Elem
constraint_element None = elem.Other
constraint_element (Some c) = elem.Constraint c

abbrev pub column_element : Option Column → Elem
column_element None = elem.Other
column_element (Some c) = elem.Column c

-- An element of a table's list: by its first word a constraint of the table, LIKE, or a column.
unfoldable pub element : List Terminal → Elem
element [] = elem.Other
element (t ∷ ts) =
    if leads_constraint t ts then constraint_element (table_constraint (t ∷ ts))
    else (if is_keyword keyword.LIKE t then elem.Like else column_element (column (t ∷ ts)))

abbrev pub listed : List Terminal → List Elem
listed inside = map element (split comma inside)

-- The elements of the list that comes directly after a table's path. An empty list has no element.
unfoldable pub elements : List Terminal → List Elem
elements tail = if is_empty (inside_list tail) then [] else listed (inside_list tail)

-- whether ON COMMIT DROP comes after a table's path
unfoldable pub drops_on_commit : List Terminal → Bool
drops_on_commit tail = has on_commit_drop tail

-- ---- domains

-- The constraints of a domain, by what follows its path and the word AS: None where nothing does, or where a DEFAULT
-- has no expression.
unfoldable pub domain_constraints : List Terminal → Option (List Constraint)
domain_constraints [] = None
domain_constraints (t ∷ ts) = column_constraints None (t ∷ ts)
