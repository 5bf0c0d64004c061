use Rattle.law_renumber.proofs.Seen.{for_kept}
use Rattle.law_renumber.proofs.Columns as law
use Rattle.law_renumber.proofs.laws.columns_renumber.Goals as goal

pub returns-clause-column : goal.returns-clause-column
returns-clause-column c = for_kept _ law.column_renumbers

pub returns-clause-elements : goal.returns-clause-elements
returns-clause-elements c = for_kept _ law.elements_renumber

pub returns-clause-drop : goal.returns-clause-drop
returns-clause-drop c = for_kept _ law.drop_renumbers

pub returns-clause-domain : goal.returns-clause-domain
returns-clause-domain c = for_kept _ law.domain_renumbers
