use Rattle.std.proofs.Common.{arith}
use Rattle.sql_keyword.specs.Slots.{slot}
use Rattle.sql_keyword.proofs.slot_of.Goals as goal

pub returns-clause-slot : goal.returns-clause-slot
unfolding slot
returns-clause-slot c = grind arith

pub returns-clause-within : goal.returns-clause-within
unfolding slot
returns-clause-within c = grind arith
