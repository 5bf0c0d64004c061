use Rattle.std.proofs.Common.{arith}
use Rattle.pass_history.proofs.robust_actions.drop_report.Goals as goal

pub returns : goal.returns
returns c = grind arith
