-- Which tails of ALTER statements have actions.
use Rattle.std.specs.Prelude.{◌≡◌, Bool, true, false, if◌then◌else◌, List, [], ◌∷◌, is_some}
use Rattle.std.specs.List.{list_all}
use Rattle.sql_tree.specs.sql_token.declared.terminal.Terminal.{Terminal}
use Rattle.sql_tree.specs.declared.kinds.StmtKind.{StmtKind}
use Rattle.sql_tree.specs.Split.{comma, split}
use Rattle.sql_tree.specs.Action.{has_several, actions_of}

abbrev pub has_terminal : List Terminal → Bool
has_terminal [] = false
has_terminal (t ∷ ts) = true

-- Each action has a terminal: each one between commas, or the one that the tail is.
abbrev pub has_terminals : StmtKind → List Terminal → Bool
has_terminals kind tail = if has_several kind then list_all has_terminal (split comma tail) else has_terminal tail

-- A tail has actions exactly where each of them has a terminal, whatever it says.
abbrev pub TailsAreRead : Type 0
TailsAreRead = (kind : StmtKind) (tail : List Terminal) → is_some (actions_of kind tail) ≡ has_terminals kind tail
