use Rattle.migration_gate.proofs.Verdicts as law
use Rattle.migration_gate.proofs.laws.one_verdict.Goals as goal

pub returns : goal.returns
returns c = law.one_verdict
