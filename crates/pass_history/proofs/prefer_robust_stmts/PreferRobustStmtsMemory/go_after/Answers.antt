use Rattle.std.proofs.Common.{arith}
use Rattle.pass_history.proofs.prefer_robust_stmts.PreferRobustStmtsMemory.go_after.Goals as goal

pub returns-clause-open : goal.returns-clause-open
returns-clause-open c = grind arith
