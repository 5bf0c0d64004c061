use Rattle.law_fixes.proofs.DetachStays.{detaches_stay}
use Rattle.law_fixes.proofs.Fixed as law
use Rattle.law_fixes.proofs.laws.tables_stay.Goals as goal

pub returns-clause-builds : goal.returns-clause-builds
returns-clause-builds c = law.builds_stay

pub returns-clause-dropped : goal.returns-clause-dropped
returns-clause-dropped c = law.dropped_stay

pub returns-clause-rebuilt : goal.returns-clause-rebuilt
returns-clause-rebuilt c = law.rebuilt_stay

pub returns-clause-detached : goal.returns-clause-detached
returns-clause-detached c = detaches_stay
