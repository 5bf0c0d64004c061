-- The next name of a list of paths.
use Rattle.std.specs.Prelude.{ℕ, Bool, true, false, ◌&&◌, if◌then◌else◌, List, [], ◌∷◌, Option, Some, None}
use Rattle.sql_token.specs.declared.terminal.Terminal.{Terminal}
use Rattle.sql_token.specs.Terminal.{is_dot, is_name}
use Rattle.sql_tree.specs.Split.{is_comma_symbol}
use denote.Bor.{Bor}

-- whether a comma comes before it, its number, and what follows
unfoldable pub next_name : List Terminal → Option (Bool × ℕ × List Terminal)
next_name [] = None
next_name (d ∷ []) = None
next_name (d ∷ t ∷ ts) =
    if is_dot d && is_name t then Some (false, t.number, ts)
    else (if is_comma_symbol d.symbol && is_name t then Some (true, t.number, ts) else None)

abbrev pub beside : Bool × ℕ × Bor (List Terminal) → Bool × ℕ × List Terminal
beside p = (p.0, p.1, p.2.now)
