use Rattle.law_edit_cuts.proofs.CutLaws as law
use Rattle.law_edit_cuts.proofs.laws.statements_stay.Goals as goal

pub returns-clause-text : goal.returns-clause-text
returns-clause-text c = law.statements_stay

pub returns-clause-statement : goal.returns-clause-statement
returns-clause-statement c = law.statement_exchanges
