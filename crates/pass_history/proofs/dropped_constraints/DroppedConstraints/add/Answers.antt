use Rattle.std.proofs.Common.{rules}
use Rattle.pass_history.proofs.dropped_constraints.DroppedConstraints.add.Goals as goal

pub returns-in-Some-clause-key : goal.returns-in-Some-clause-key
returns-in-Some-clause-key c = search rules

pub returns-in-Some-clause-ok : goal.returns-in-Some-clause-ok
returns-in-Some-clause-ok c = search rules

pub returns-in_default-clause-key : goal.returns-in_default-clause-key
returns-in_default-clause-key c = search rules

pub returns-in_default-clause-ok : goal.returns-in_default-clause-ok
returns-in_default-clause-ok c = search rules

pub returns-in_default-2-clause-key : goal.returns-in_default-2-clause-key
returns-in_default-2-clause-key c = search rules

pub returns-in_default-2-clause-ok : goal.returns-in_default-2-clause-ok
returns-in_default-2-clause-ok c = search rules
