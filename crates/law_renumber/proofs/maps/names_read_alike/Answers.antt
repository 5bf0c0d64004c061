use Rattle.law_renumber.proofs.Names as law
use Rattle.law_renumber.proofs.maps.names_read_alike.Goals as goal

pub returns-clause-statement : goal.returns-clause-statement
returns-clause-statement c = law.statements_read_alike

pub returns-clause-text : goal.returns-clause-text
returns-clause-text c = law.texts_read_alike
