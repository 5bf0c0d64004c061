use Rattle.migration_gate.proofs.Sessions as law
use Rattle.migration_gate.proofs.machine_laws.transactions_end.Goals as goal

pub returns : goal.returns
returns c = law.transactions_end
