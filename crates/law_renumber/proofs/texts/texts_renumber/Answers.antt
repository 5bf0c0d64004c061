use Rattle.law_renumber.proofs.Seen.{for_kept}
use Rattle.law_renumber.proofs.Readings as law
use Rattle.law_renumber.proofs.texts.texts_renumber.Goals as goal

pub returns-clause-statements : goal.returns-clause-statements
returns-clause-statements c = for_kept _ law.statements_renumber

pub returns-clause-reading : goal.returns-clause-reading
returns-clause-reading c = for_kept _ law.reading_renumbers

pub returns-clause-text : goal.returns-clause-text
returns-clause-text c = for_kept _ law.text_renumbers
