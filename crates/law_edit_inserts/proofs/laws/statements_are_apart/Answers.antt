use Rattle.law_edit_inserts.proofs.Apart.{statements_apart}
use Rattle.law_edit_inserts.proofs.laws.statements_are_apart.Goals as goal

pub returns : goal.returns
returns c = statements_apart
