use Rattle.migration_gate.proofs.Sessions as law
use Rattle.migration_gate.proofs.machine_laws.sessions_agree.Goals as goal

pub returns : goal.returns
returns c = law.sessions_agree c.numbers_count.ensures.block
