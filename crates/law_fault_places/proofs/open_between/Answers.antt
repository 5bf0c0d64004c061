use Rattle.law_fault_places.proofs.Places.{open_between}
use Rattle.law_fault_places.proofs.open_between.Goals as goal

pub returns : goal.returns
returns c = open_between
