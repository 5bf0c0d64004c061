use Rattle.hazard_base.proofs.HazardNames.{apart}
use Rattle.hazard_base.proofs.laws.names_are_apart.Goals as goal

pub returns : goal.returns
returns c = apart
