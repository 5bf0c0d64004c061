-- Bracket groups and paths that come first in a list of terminals.
use Rattle.std.specs.Prelude.{◌-◌, ◌==◌, Bool, true, false, ◌&&◌, if◌then◌else◌, List, [], ◌∷◌, length, take, drop, Option, Some, None}
use Rattle.sql_token.specs.declared.token.Span.{Span}
use Rattle.sql_token.specs.declared.terminal.Symbol.{Symbol}
use Rattle.sql_token.specs.declared.terminal.Symbol.TheVariants as s
use Rattle.sql_token.specs.declared.terminal.Terminal.{Terminal}
use Rattle.sql_token.specs.Terminal.{is_name}
use Rattle.sql_tree.specs.Split.{closing, begins_list}
use Rattle.sql_tree.specs.Forms.{names_end}

abbrev pub is_empty : {A : Type 0} → List A → Bool
is_empty [] = true
is_empty (x ∷ xs) = false

-- one bracket list ( .. ), and nothing else
unfoldable pub is_list : List Terminal → Bool
is_list ts = begins_list ts && closing 0 0 ts == length ts

-- What is inside the bracket list that comes first: nothing where none does.
unfoldable pub inside_list : List Terminal → List Terminal
inside_list ts = if begins_list ts then take (closing 0 0 ts - 2) (drop 1 ts) else []

abbrev pub is_open_square_symbol : Symbol → Bool
is_open_square_symbol s.OpenSquare = true
is_open_square_symbol _ = false

abbrev pub begins_square : List Terminal → Bool
begins_square [] = false
begins_square (t ∷ ts) = is_open_square_symbol t.symbol

-- one bracket group [ .. ], and nothing else
unfoldable pub is_square : List Terminal → Bool
is_square ts = begins_square ts && closing 0 0 ts == length ts

-- The path that comes first, as many names as there are, and what follows it.
unfoldable pub path_first : List Terminal → Option (Span × List Terminal)
path_first [] = None
path_first (t ∷ ts) =
    if is_name t then Some (record { first = t.number; last = (names_end t.number ts).0 }, (names_end t.number ts).1) else None
