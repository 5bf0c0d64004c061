use Rattle.law_reports.proofs.laws.coded.Goals as goal

pub returns : goal.returns
returns g c = λ tree rules settings. g.P.StepPass.coded _ tree rules settings
