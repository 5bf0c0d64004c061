use Rattle.std.proofs.Common.{arith}
use Rattle.pass_constraint.proofs.adding_required_field.are_required.Goals as goal

pub returns-then-not-has : goal.returns-then-not-has
returns-then-not-has c = grind arith
