use Rattle.std.proofs.Common.{arith}
use Rattle.pass_constraint.proofs.constraint_missing_not_valid.forget_at_end.Goals as goal

pub returns-else-ends-clause-key : goal.returns-else-ends-clause-key
returns-else-ends-clause-key c = grind arith

pub returns-else-ends-clause-names : goal.returns-else-ends-clause-names
returns-else-ends-clause-names c = grind arith

pub returns-then-ends-clause-key : goal.returns-then-ends-clause-key
returns-then-ends-clause-key c = grind arith

pub returns-then-ends-clause-names : goal.returns-then-ends-clause-names
returns-then-ends-clause-names c = grind arith
