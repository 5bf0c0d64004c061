use Rattle.std.proofs.Common.{arith}
use Rattle.sql_token.specs.Terminal.{is_semicolon}
use Rattle.sql_token.proofs.terminal.Terminal.is_semicolon.Goals as goal

pub returns-in-Semicolon : goal.returns-in-Semicolon
unfolding is_semicolon
returns-in-Semicolon c = grind arith
