use Rattle.std.proofs.Common.{◌≡◌, ◌||◌, subst, sym}
use Rattle.hazard_base.specs.declared.hazard_set.HazardSet.{HazardSet}
use Rattle.hazard_base.specs.Hazards.{same_hazard}
use Rattle.hazard_base.specs.HazardSets.{has}
use Rattle.hazard_base.proofs.Sets.{has_one_more}
use Rattle.hazard_base.proofs.hazard_set.HazardSet.insert.Goals as goal

pub returns : goal.returns
returns c = λ q. rw c.put.ensures (has_one_more c.args.self.now c.args.hazard q)
