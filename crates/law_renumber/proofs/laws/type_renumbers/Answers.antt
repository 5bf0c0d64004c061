use Rattle.law_renumber.proofs.Seen.{for_kept}
use Rattle.law_renumber.proofs.Types as law
use Rattle.law_renumber.proofs.laws.type_renumbers.Goals as goal

pub returns-clause-length : goal.returns-clause-length
returns-clause-length c = for_kept _ law.type_len_renumbers

pub returns-clause-tree : goal.returns-clause-tree
returns-clause-tree c = for_kept _ law.type_renumbers
