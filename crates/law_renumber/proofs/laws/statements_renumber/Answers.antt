use Rattle.law_renumber.proofs.Seen.{for_kept}
use Rattle.law_renumber.proofs.Statements as law
use Rattle.law_renumber.proofs.Soundness.{sound_renumbers}
use Rattle.law_renumber.proofs.laws.statements_renumber.Goals as goal

pub returns-clause-sound : goal.returns-clause-sound
returns-clause-sound c = for_kept _ sound_renumbers

pub returns-clause-form : goal.returns-clause-form
returns-clause-form c = for_kept _ law.form_renumbers

pub returns-clause-statement : goal.returns-clause-statement
returns-clause-statement c = for_kept _ law.statement_changed
