use Rattle.lock_machine.proofs.BirthLaws as law
use Rattle.lock_machine.proofs.laws.numbers_count.Goals as goal

pub returns-clause-block : goal.returns-clause-block
returns-clause-block c = law.blocks_are_open

pub returns-clause-number : goal.returns-clause-number
returns-clause-number c = law.numbers_count
