use Rattle.law_answer_steps.proofs.Ordered as ordered
use Rattle.law_answer_steps.proofs.laws.answers_ascend.Goals as goal

pub returns : goal.returns
returns c = ordered.answers_ascend
