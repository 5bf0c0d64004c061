-- What the reader's own values show: lists of terminals in place of slices.
use Rattle.std.specs.Prelude.{ℕ, List}
use Rattle.sql_token.specs.declared.token.Span.{Span}
use Rattle.sql_token.specs.declared.terminal.Terminal.{Terminal}
use denote.Bor.{Bor}

-- the number of a name, and the terminals that follow it
abbrev pub beside : ℕ × Bor (List Terminal) → ℕ × List Terminal
beside p = (p.0, p.1.now)

-- a path, and the terminals that follow it
abbrev pub path_beside : Span × Bor (List Terminal) → Span × List Terminal
path_beside p = (p.0, p.1.now)
