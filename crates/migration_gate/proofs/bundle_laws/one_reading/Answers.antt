use Rattle.migration_gate.proofs.Bundles as law
use Rattle.migration_gate.proofs.bundle_laws.one_reading.Goals as goal

pub returns-clause-entries : goal.returns-clause-entries
returns-clause-entries c = law.one_reading

pub returns-clause-place : goal.returns-clause-place
returns-clause-place c = law.one_bad_place

pub returns-clause-apart : goal.returns-clause-apart
returns-clause-apart c = law.never_both
