use Rattle.migration_gate.proofs.Ages as law
use Rattle.migration_gate.proofs.machine_laws.files_are_apart.Goals as goal

pub returns : goal.returns
returns c = law.files_are_apart
