-- Pieces: each begins at a mark of depth 0 and runs to before the next one.
-- The first terminals of a piece are its head: no mark is looked for among them.
use Rattle.std.specs.Prelude.{ℕ, suc, ◌+◌, ◌-◌, ◌==◌, ◌&&◌, if◌then◌else◌, List, [], ◌∷◌, drop, Option, Some}
use Rattle.sql_token.specs.declared.terminal.Terminal.{Terminal}
use Rattle.sql_token.specs.Terminal.{is_opener, is_closer}
use Rattle.sql_token.specs.Depth.{one_if, onto}
use Rattle.sql_tree.specs.Split.{Test}

-- How many terminals come before the first mark of depth 0 that is none of the first n terminals, all where there is
-- none. Before them come `earlier`, o openers and c closers.
abbrev pub before_after_head : Test → ℕ → Option Terminal → ℕ → ℕ → List Terminal → ℕ
before_after_head mark n earlier o c [] = 0
before_after_head mark n earlier o c (t ∷ ts) =
    if n == 0 && o == c && mark earlier t ts then 0
    else suc (before_after_head mark (n - 1) (Some t) (o + one_if (is_opener t)) (c + one_if (is_closer t)) ts)

-- How many terminals of a head follow its first one, which is a mark.
abbrev pub Head : Type 0
Head = Terminal → List Terminal → ℕ

-- What comes before the first mark that is none of the first n terminals, and then the pieces. A mark is no bracket.
abbrev pub pieces_from : Test → Head → ℕ → Option Terminal → ℕ → ℕ → List Terminal → List (List Terminal)
pieces_from mark head n earlier o c [] = [] ∷ []
pieces_from mark head n earlier o c (t ∷ ts) =
    if n == 0 && o == c && mark earlier t ts then [] ∷ onto t (pieces_from mark head (head t ts) (Some t) 0 0 ts)
    else onto t (pieces_from mark head (n - 1) (Some t) (o + one_if (is_opener t)) (c + one_if (is_closer t)) ts)

-- the pieces of a list that begins with one
abbrev pub pieces_at : Test → Head → List Terminal → List (List Terminal)
pieces_at mark head [] = []
pieces_at mark head (t ∷ ts) = onto t (pieces_from mark head (head t ts) (Some t) 0 0 ts)

-- how many terminals the piece that comes first is
abbrev pub piece_len : Test → Head → List Terminal → ℕ
piece_len mark head [] = 0
piece_len mark head (t ∷ ts) = suc (before_after_head mark (head t ts) (Some t) 0 0 ts)

-- The pieces of a list, after a terminal where one is given. What comes before the first one is left out.
unfoldable pub pieces : Test → Head → Option Terminal → List Terminal → List (List Terminal)
pieces mark head earlier ts = pieces_at mark head (drop (before_after_head mark 0 earlier 0 0 ts) ts)
