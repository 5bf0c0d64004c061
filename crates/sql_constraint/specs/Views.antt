-- What the reader's own values show: lists of terminals in place of slices.
use Rattle.std.specs.Prelude.{List}
use Rattle.sql_tree.specs.sql_token.declared.terminal.Terminal.{Terminal}
use denote.Bor.{Bor}

-- what was read, and the terminals that follow it
abbrev pub beside : {A : Type 0} → A × Bor (List Terminal) → A × List Terminal
beside p = (p.0, p.1.now)
