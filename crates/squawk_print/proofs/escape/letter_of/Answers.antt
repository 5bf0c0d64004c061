use Rattle.std.proofs.Common.{arith}
use Rattle.squawk_print.proofs.escape.letter_of.Goals as goal

pub returns-in-10 : goal.returns-in-10
returns-in-10 c = grind arith

pub returns-in-13 : goal.returns-in-13
returns-in-13 c = grind arith

pub returns-in_default : goal.returns-in_default
returns-in_default c = grind arith
