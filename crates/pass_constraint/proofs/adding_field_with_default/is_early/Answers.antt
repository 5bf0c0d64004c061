use Rattle.std.proofs.Common.{arith}
use Rattle.pass_constraint.proofs.adding_field_with_default.is_early.Goals as goal

pub returns : goal.returns
returns c = grind arith
