use Rattle.std.proofs.Common.{arith}
use Rattle.sql_mark.proofs.words.is_sequence_word.Goals as goal

pub returns-in_default : goal.returns-in_default
returns-in_default c = grind arith
