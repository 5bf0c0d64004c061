use Rattle.std.proofs.Common.{◌≡◌, length}
use Rattle.sql_expr.specs.Levels as spec
use Rattle.sql_expr.proofs.level.all_around.Given as goal

abbrev pub invariant-loop-level : goal.invariant-loop-level
invariant-loop-level l = spec.all_around l.outer l.expr ≡ spec.all_around l.fn.levels l.fn.inner

abbrev pub decreases-loop-level : goal.decreases-loop-level
decreases-loop-level l = length l.outer
