use Rattle.law_edit_cuts.proofs.Nested as law
use Rattle.law_edit_cuts.proofs.laws.runs_are_closed.Goals as goal

pub returns-clause-level : goal.returns-clause-level
returns-clause-level c = law.closed_is_level

pub returns-clause-closed : goal.returns-clause-closed
returns-clause-closed c = law.level_is_closed

pub returns-clause-neutral : goal.returns-clause-neutral
returns-clause-neutral c = law.neutral_ends_none

pub returns-clause-uncut : goal.returns-clause-uncut
returns-clause-uncut c = law.uncut_has_none
