use Rattle.law_renumber.proofs.Seen.{for_kept}
use Rattle.law_renumber.proofs.Expressions as law
use Rattle.law_renumber.proofs.laws.expression_renumbers.Goals as goal

pub returns : goal.returns
returns c = for_kept _ law.expression_renumbers
