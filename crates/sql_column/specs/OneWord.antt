-- A type that is one name, and no key word.
use Rattle.std.specs.Prelude.{◌≡◌, ℕ, Bool, true, false, List, [], Option, Some, None}
use Rattle.sql_tree.specs.sql_token.declared.terminal.Symbol.{Symbol}
use Rattle.sql_tree.specs.sql_token.declared.terminal.Symbol.TheVariants as s
use Rattle.sql_tree.specs.sql_token.declared.terminal.Terminal.{Terminal}
use Rattle.sql_tree.specs.declared.nodes.ColType.{ColType}
use Rattle.sql_tree.specs.declared.nodes.TyKind.TheVariants.{Path}
use Rattle.sql_tree.specs.ColumnType.{plain_of, column_type}
use Rattle.sql_tree.specs.Column.{type_in}
use Rattle.sql_tree.specs.Constraint.{column_constraints}

-- a name that is no key word
abbrev pub is_plain_symbol : Symbol → Bool
is_plain_symbol s.Word = true
is_plain_symbol s.Quoted = true
is_plain_symbol _ = false

-- the type whose path is the name of this number
abbrev pub path_of_one : ℕ → ColType
path_of_one n = plain_of Path n (record { first = n; last = n }) None false

-- These terminals are this type, it is the one that comes first in them, and no constraint is there.
pub record OneWord (ts : List Terminal) (ty : ColType) : Type 0 where
  pub whole : column_type ts ≡ Some ty
  pub first : type_in ts ≡ Some ty
  pub alone : (earlier : Option Terminal) → column_constraints earlier ts ≡ Some []
