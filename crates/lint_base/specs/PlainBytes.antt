-- Bytes that stand for themselves on a printed line.
use Rattle.std.specs.Prelude.{ℕ, Bool, ◌==◌, ◌&&◌, not}

-- all but a backslash, a line feed, a carriage return and a quote
abbrev pub is_plain : ℕ → Bool
is_plain b = not (b == 92) && not (b == 10) && not (b == 13) && not (b == 34)
