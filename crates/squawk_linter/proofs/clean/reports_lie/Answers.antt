use Rattle.squawk_linter.proofs.Tables.{all_lie}
use Rattle.squawk_linter.proofs.clean.reports_lie.Goals as goal

pub returns : goal.returns
returns g c = λ tree rules settings read. all_lie tree _ (g.P.StepPass.placed _ tree rules settings read)
