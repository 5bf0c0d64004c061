use Rattle.law_renumber.proofs.Seen.{for_kept}
use Rattle.law_renumber.proofs.Writes as law
use Rattle.law_renumber.proofs.laws.queries_renumber.Goals as goal

pub returns-clause-targets : goal.returns-clause-targets
returns-clause-targets c = for_kept _ law.targets_renumber

pub returns-clause-view : goal.returns-clause-view
returns-clause-view c = for_kept _ law.view_renumbers

pub returns-clause-write : goal.returns-clause-write
returns-clause-write c = for_kept _ law.write_renumbers
