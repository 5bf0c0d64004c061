use Rattle.law_edit_cuts.proofs.CutLaws as law
use Rattle.law_edit_cuts.proofs.laws.parts_stay.Goals as goal

pub returns-clause-list : goal.returns-clause-list
returns-clause-list c = law.parts_stay

pub returns-clause-part : goal.returns-clause-part
returns-clause-part c = law.part_exchanges
