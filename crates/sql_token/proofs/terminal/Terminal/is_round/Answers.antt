use Rattle.std.proofs.Common.{arith}
use Rattle.sql_token.specs.Terminal.{is_round}
use Rattle.sql_token.proofs.terminal.Terminal.is_round.Goals as goal

pub returns-in_default : goal.returns-in_default
unfolding is_round
returns-in_default c = grind arith
