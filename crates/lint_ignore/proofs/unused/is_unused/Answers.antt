use Rattle.std.proofs.Common.{arith}
use Rattle.std.proofs.lemmas.Grind.{common_steps}
use Rattle.lint_ignore.proofs.unused.is_unused.Goals as goal

pub returns-else-intersects : goal.returns-else-intersects
returns-else-intersects c = grind arith

pub returns-then-intersects : goal.returns-then-intersects
returns-then-intersects c = grind (arith, common_steps)
