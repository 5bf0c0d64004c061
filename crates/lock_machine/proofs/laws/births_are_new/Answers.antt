use Rattle.lock_machine.proofs.BirthLaws as law
use Rattle.lock_machine.proofs.laws.births_are_new.Goals as goal

pub returns : goal.returns
returns c = law.births_are_new
