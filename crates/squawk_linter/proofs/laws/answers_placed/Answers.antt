use Rattle.squawk_linter.proofs.Tables as tables
use Rattle.squawk_linter.proofs.laws.answers_placed.Goals as goal

pub returns-clause-placed : goal.returns-clause-placed
returns-clause-placed c = tables.answers_placed c.placed_pass.ensures

pub returns-clause-good : goal.returns-clause-good
returns-clause-good c = tables.answered_good (tables.answers_placed c.placed_pass.ensures)
