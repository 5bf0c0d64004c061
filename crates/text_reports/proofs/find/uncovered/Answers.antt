use Rattle.std.proofs.Common.{arith, rules}
use Rattle.std.proofs.lemmas.Grind.{common_steps}
use Rattle.text_reports.proofs.find.uncovered.Goals as goal

pub loop-finding-preserved-else-not-covers-5 : goal.loop-finding-preserved-else-not-covers-5
loop-finding-preserved-else-not-covers-5 c = grind (arith, common_steps)

pub loop-finding-preserved : goal.loop-finding-preserved
loop-finding-preserved c = grind (arith, common_steps)
