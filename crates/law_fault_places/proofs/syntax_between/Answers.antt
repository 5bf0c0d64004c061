use Rattle.law_fault_places.proofs.Places.{syntax_between}
use Rattle.law_fault_places.proofs.syntax_between.Goals as goal

pub returns : goal.returns
returns c = syntax_between
