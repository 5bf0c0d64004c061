use Rattle.law_renumber.proofs.Seen.{for_kept}
use Rattle.law_renumber.proofs.Constraints as law
use Rattle.law_renumber.proofs.laws.constraint_renumbers.Goals as goal

pub returns : goal.returns
returns c = for_kept _ law.constraint_renumbers
