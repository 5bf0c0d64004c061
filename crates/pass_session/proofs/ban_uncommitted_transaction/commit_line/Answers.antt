use Rattle.std.proofs.Common.{arith}
use Rattle.pass_session.proofs.ban_uncommitted_transaction.commit_line.Goals as goal

pub returns : goal.returns
returns c = grind arith
