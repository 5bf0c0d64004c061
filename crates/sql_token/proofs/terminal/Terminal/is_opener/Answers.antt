use Rattle.std.proofs.Common.{arith}
use Rattle.sql_token.specs.Terminal.{is_opener}
use Rattle.sql_token.proofs.terminal.Terminal.is_opener.Goals as goal

pub returns-in_default : goal.returns-in_default
unfolding is_opener
returns-in_default c = grind arith
