use Rattle.migration_gate.proofs.Lists as law
use Rattle.migration_gate.proofs.laws.accepted_runs_clean.Goals as goal

pub returns : goal.returns
returns c = law.accepted_runs_clean c.clean_answers.ensures
