use Rattle.law_edit_cuts.proofs.Sound as law
use Rattle.law_edit_cuts.proofs.laws.soundness_stays.Goals as goal

pub returns-clause-stays : goal.returns-clause-stays
returns-clause-stays c = law.soundness_stays

pub returns-clause-closed : goal.returns-clause-closed
returns-clause-closed c = law.sound_is_closed

pub returns-clause-level : goal.returns-clause-level
returns-clause-level c = law.prefix_is_level
