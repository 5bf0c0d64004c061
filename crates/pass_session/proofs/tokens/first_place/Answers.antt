use Rattle.std.proofs.Common.{arith}
use Rattle.pass_session.proofs.tokens.first_place.Goals as goal

pub returns-in-Some : goal.returns-in-Some
returns-in-Some c = grind arith
