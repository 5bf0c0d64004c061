use Rattle.hazard_base.proofs.Sets.{has_one_less}
use Rattle.hazard_base.proofs.hazard_set.HazardSet.remove.Goals as goal

pub returns : goal.returns
returns c = λ q. rw c.put.ensures (has_one_less c.args.self.now c.args.hazard q)
