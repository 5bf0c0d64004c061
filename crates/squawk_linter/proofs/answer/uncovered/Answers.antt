use Rattle.std.proofs.Common.{arith, rules}
use Rattle.std.proofs.lemmas.Grind.{common_steps}
use Rattle.squawk_linter.proofs.answer.uncovered.Goals as goal

pub loop-report-preserved : goal.loop-report-preserved
loop-report-preserved c = grind arith

pub loop-report-preserved-else-not-contains : goal.loop-report-preserved-else-not-contains
loop-report-preserved-else-not-contains c = grind arith

pub returns-in_err-push : goal.returns-in_err-push
returns-in_err-push c = search rules

pub returns : goal.returns
returns c = grind (arith, common_steps)
