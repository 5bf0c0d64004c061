use Rattle.std.proofs.Common.{arith}
use Rattle.pass_constraint.proofs.constraint_rows.is_excused_by.Goals as goal

pub returns-in-ByIndex : goal.returns-in-ByIndex
returns-in-ByIndex c = grind arith
