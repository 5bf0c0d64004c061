use Rattle.std.proofs.Common.{arith}
use Rattle.text_pos.proofs.ending.line_ending.Goals as goal

pub returns-in-Some : goal.returns-in-Some
returns-in-Some c = grind arith
