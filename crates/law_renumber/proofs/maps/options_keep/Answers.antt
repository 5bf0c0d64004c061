use Rattle.law_renumber.proofs.Options as law
use Rattle.law_renumber.proofs.maps.options_keep.Goals as goal

pub returns-clause-statement : goal.returns-clause-statement
returns-clause-statement c = law.by_all

pub returns-clause-words : goal.returns-clause-words
returns-clause-words c = law.by_words

pub returns-clause-text : goal.returns-clause-text
returns-clause-text c = law.text_by_all
