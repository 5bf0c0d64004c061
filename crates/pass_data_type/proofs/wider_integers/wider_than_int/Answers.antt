use Rattle.std.proofs.Common.{arith}
use Rattle.pass_data_type.proofs.wider_integers.wider_than_int.Goals as goal

pub returns-then-is_word-2 : goal.returns-then-is_word-2
returns-then-is_word-2 c = grind arith
