use Rattle.law_printed_lines.proofs.Steering.{steer_nothing}
use Rattle.law_printed_lines.proofs.steer_nothing.Goals as goal

pub returns : goal.returns
returns c = steer_nothing
