use Rattle.std.proofs.Common.{arith}
use Rattle.text_pos.proofs.range.TextRange.contains_range.Goals as goal

pub returns-else-self-other : goal.returns-else-self-other
returns-else-self-other c = grind arith

pub returns-then-self-other : goal.returns-then-self-other
returns-then-self-other c = grind arith
