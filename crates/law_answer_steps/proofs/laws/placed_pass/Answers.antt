use Rattle.law_answer_steps.proofs.laws.placed_pass.Goals as goal

pub returns : goal.returns
returns g c = λ tree rules settings read. g.P.StepPass.placed _ tree rules settings read
