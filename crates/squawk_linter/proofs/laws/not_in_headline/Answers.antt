use Rattle.squawk_linter.proofs.HeadlineLaws.{none_of}
use Rattle.squawk_linter.proofs.laws.not_in_headline.Goals as goal

pub returns : goal.returns
returns g c = λ first second tree rules settings. none_of _ rules first second tree _ (g.P.StepPass.coded _ tree rules settings)
