use Rattle.std.proofs.Common.{refl}
use Rattle.hazard_base.specs.Hazards.{all_hazards, hazard_named}
use Rattle.hazard_base.proofs.HazardNames.{found_exactly}
use Rattle.hazard_base.proofs.hazard.hazard_named.Goals as goal

pub returns-clause-value : goal.returns-clause-value
unfolding hazard_named all_hazards
returns-clause-value c = c.first_named.ensures

pub returns-clause-named : goal.returns-clause-named
returns-clause-named c = found_exactly c.args.text.now c.first_named.result (returns-clause-value c)
