-- What a walk over the statements is seen as: the statements that are still to come.
use Rattle.std.specs.Prelude.{List, length}
use Rattle.sql_token.specs.declared.terminal.Terminal.{Terminal}
use Rattle.sql_lex.specs.Cursor.{IsWalk, statements_after}
use Rattle.sql_lex.specs.declared.statements.Statements.TheInside.{Inside}

abbrev pub to_come : Inside → List (List Terminal)
to_come s = statements_after s.text.now s.toks.now s.number

abbrev pub IsValid : Inside → Type 0
IsValid s = IsWalk (length s.text.now) s.toks.now s.number
