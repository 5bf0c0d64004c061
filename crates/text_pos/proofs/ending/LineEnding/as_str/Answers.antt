use Rattle.std.proofs.Common.{arith}
use Rattle.text_pos.proofs.ending.LineEnding.as_str.Goals as goal

pub returns-in-CrLf : goal.returns-in-CrLf
returns-in-CrLf c = grind arith

pub returns-in-Lf : goal.returns-in-Lf
returns-in-Lf c = grind arith
