use Rattle.std.proofs.Common.{arith, sym}
use Rattle.std.proofs.lemmas.Grind.{common_steps}
use Rattle.sql_tree.proofs.TailWalks.{by_lock}
use Rattle.sql_tail.proofs.locking.lock_mode.Goals as goal

pub loop-left-init : goal.loop-left-init
loop-left-init c = sym (by_lock c.args.terminals.now)

pub returns-in-Some : goal.returns-in-Some
returns-in-Some c = grind (arith, common_steps)
