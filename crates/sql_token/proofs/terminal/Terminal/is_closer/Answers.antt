use Rattle.std.proofs.Common.{arith}
use Rattle.sql_token.specs.Terminal.{is_closer}
use Rattle.sql_token.proofs.terminal.Terminal.is_closer.Goals as goal

pub returns-in_default : goal.returns-in_default
unfolding is_closer
returns-in_default c = grind arith
