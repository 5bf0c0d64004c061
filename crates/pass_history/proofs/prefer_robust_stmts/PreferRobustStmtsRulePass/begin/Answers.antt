use Rattle.std.proofs.Common.{refl}
use Rattle.pass_history.proofs.prefer_robust_stmts.PreferRobustStmtsRulePass.begin.Goals as goal

pub returns : goal.returns
returns c tree cleared = record { open_here = c.new.ensures.start tree; dropping = c.new-2.ensures tree; next_block = refl }
