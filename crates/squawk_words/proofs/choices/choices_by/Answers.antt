use Rattle.std.proofs.Common.{arith}
use Rattle.squawk_words.proofs.choices.choices_by.Goals as goal

pub returns : goal.returns
returns c = grind arith
