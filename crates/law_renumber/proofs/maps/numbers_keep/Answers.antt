use Rattle.law_renumber.proofs.Names as law
use Rattle.law_renumber.proofs.maps.numbers_keep.Goals as goal

pub returns-clause-keep : goal.returns-clause-keep
returns-clause-keep c = law.numbers_keep

pub returns-clause-options : goal.returns-clause-options
returns-clause-options c = law.numbers_keep_options
