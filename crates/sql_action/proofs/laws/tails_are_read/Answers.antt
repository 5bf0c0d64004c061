use Rattle.sql_action.proofs.Tails.{tails_read}
use Rattle.sql_action.proofs.laws.tails_are_read.Goals as goal

pub returns : goal.returns
returns c = tails_read
