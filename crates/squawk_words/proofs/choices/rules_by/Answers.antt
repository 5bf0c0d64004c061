use Rattle.std.proofs.Common.{arith}
use Rattle.squawk_words.proofs.choices.rules_by.Goals as goal

pub returns : goal.returns
returns c = grind arith

pub returns-in-Some-2 : goal.returns-in-Some-2
returns-in-Some-2 c = grind arith
