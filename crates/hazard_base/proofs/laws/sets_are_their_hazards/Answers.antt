use Rattle.hazard_base.proofs.Sets.{same}
use Rattle.hazard_base.proofs.laws.sets_are_their_hazards.Goals as goal

pub returns : goal.returns
returns c = same
