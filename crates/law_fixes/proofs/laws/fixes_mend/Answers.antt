use Rattle.law_fixes.proofs.Detached as detach
use Rattle.law_fixes.proofs.Fixed as law
use Rattle.law_fixes.proofs.laws.fixes_mend.Goals as goal

pub returns-clause-builds : goal.returns-clause-builds
returns-clause-builds c = law.builds_mend

pub returns-clause-dropped : goal.returns-clause-dropped
returns-clause-dropped c = law.dropped_mend

pub returns-clause-rebuilt : goal.returns-clause-rebuilt
returns-clause-rebuilt c = law.rebuilt_mend

pub returns-clause-detached : goal.returns-clause-detached
returns-clause-detached c = detach.detached_mend
