use Rattle.std.proofs.Common.{arith}
use Rattle.text_pos.proofs.range.TextRange.is_empty.Goals as goal

pub returns : goal.returns
returns c = grind arith
