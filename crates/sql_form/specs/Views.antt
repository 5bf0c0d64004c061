-- What the reader's own values show: lists of terminals in place of slices.
use Rattle.std.specs.Prelude.{List}
use Rattle.sql_tree.specs.sql_token.declared.terminal.Terminal.{Terminal}
use Rattle.sql_tree.specs.declared.forms.Captures.{Captures}
use Rattle.sql_tree.specs.Forms.{State, at}
use denote.Bor.{Bor}

-- what was kept, and the terminals of a slice as what is left
abbrev pub after : Captures → Bor (List Terminal) → State
after c r = at c r.now

-- the same beside the kind of a statement, an action or a piece
abbrev pub front : {K : Type 0} → Captures → K × Bor (List Terminal) → K × State
front c f = (f.0, after c f.1)
