use Rattle.squawk_linter.proofs.Tables as tables
use Rattle.squawk_linter.proofs.laws.rules_apart.Goals as goal

pub returns : goal.returns
returns c = tables.rules_apart c.apart.ensures
