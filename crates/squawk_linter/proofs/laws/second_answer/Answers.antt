use Rattle.squawk_linter.proofs.Ignoring as ignoring
use Rattle.squawk_linter.proofs.laws.second_answer.Goals as goal

pub returns : goal.returns
returns c = ignoring.second_answer
