use Rattle.std.proofs.Common.{arith}
use Rattle.pass_concurrent.specs.RequireConcurrentIndexCreation.{report}
use Rattle.pass_concurrent.proofs.require_concurrent_index_creation.report.Goals as goal

pub returns : goal.returns
unfolding report
returns c = grind arith
