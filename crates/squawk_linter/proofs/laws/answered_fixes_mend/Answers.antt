use Rattle.squawk_linter.proofs.Mendings.{answered_mend, answers_stand}
use Rattle.squawk_linter.proofs.laws.answered_fixes_mend.Goals as goal

pub returns-clause-stand : goal.returns-clause-stand
returns-clause-stand c = answers_stand c.entries_are_in_their_tables.ensures

pub returns-clause-mend : goal.returns-clause-mend
returns-clause-mend c = answered_mend (answers_stand c.entries_are_in_their_tables.ensures)
