use Rattle.squawk_run.proofs.OwnWords.{stays_unset}
use Rattle.squawk_run.proofs.laws.foreign_stays_unset.Goals as goal

pub returns : goal.returns
returns c = stays_unset
