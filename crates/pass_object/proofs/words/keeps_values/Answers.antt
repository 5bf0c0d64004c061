use Rattle.std.proofs.Common.{arith}
use Rattle.pass_object.proofs.words.keeps_values.Goals as goal

pub returns-then-is_word-2 : goal.returns-then-is_word-2
returns-then-is_word-2 c = grind arith
