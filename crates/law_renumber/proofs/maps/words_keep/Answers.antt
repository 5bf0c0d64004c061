use Rattle.law_renumber.proofs.Names as law
use Rattle.law_renumber.proofs.maps.words_keep.Goals as goal

pub returns-clause-keep : goal.returns-clause-keep
returns-clause-keep c = law.words_keep

pub returns-clause-others : goal.returns-clause-others
returns-clause-others c = law.others_stay
