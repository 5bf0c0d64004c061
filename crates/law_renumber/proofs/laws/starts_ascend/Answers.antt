use Rattle.law_renumber.proofs.ElementOrder as element_order
use Rattle.law_renumber.proofs.NodeOrder as order
use Rattle.law_renumber.proofs.TypeOrder as type_order
use Rattle.law_renumber.proofs.laws.starts_ascend.Goals as goal

pub returns-clause-statements : goal.returns-clause-statements
returns-clause-statements c = order.statements_ascend

pub returns-clause-actions : goal.returns-clause-actions
returns-clause-actions c = order.actions_ascend

pub returns-clause-elements : goal.returns-clause-elements
returns-clause-elements c = element_order.elements_ascend

pub returns-clause-types : goal.returns-clause-types
returns-clause-types c = type_order.types_ascend
