use Rattle.std.proofs.Common.{arith}
use Rattle.pass_object.proofs.changes.Changes.report_by.Goals as goal

pub returns-then-fits-clause-ok : goal.returns-then-fits-clause-ok
returns-then-fits-clause-ok c = grind arith
