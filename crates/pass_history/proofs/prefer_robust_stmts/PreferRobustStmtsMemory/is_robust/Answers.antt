use Rattle.std.proofs.Common.{rules}
use Rattle.pass_history.proofs.prefer_robust_stmts.PreferRobustStmtsMemory.is_robust.Goals as goal

pub returns-then-is_empty : goal.returns-then-is_empty
returns-then-is_empty c = search rules

pub returns-then-set : goal.returns-then-set
returns-then-set c = search rules

pub returns-else-set : goal.returns-else-set
returns-else-set c = search rules
