use Rattle.std.proofs.Common.{arith}
use Rattle.lint_lock.proofs.analyze.refers.Goals as goal

pub returns-in-Column : goal.returns-in-Column
returns-in-Column c = grind arith
