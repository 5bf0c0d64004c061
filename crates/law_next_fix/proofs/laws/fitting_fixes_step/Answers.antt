use Rattle.law_next_fix.proofs.Fitting.{all_tried, fitting_may_step, fitting_steps}
use Rattle.law_next_fix.proofs.laws.fitting_fixes_step.Goals as goal

pub returns-clause-tried : goal.returns-clause-tried
returns-clause-tried c = all_tried c.listed_edits.ensures c.answered_fixes_mend.ensures.stand c.answers_placed.ensures.good

pub returns-clause-may : goal.returns-clause-may
returns-clause-may c = fitting_may_step c.listed_edits.ensures c.answered_fixes_mend.ensures.stand

pub returns-clause-steps : goal.returns-clause-steps
returns-clause-steps c = fitting_steps c.listed_edits.ensures c.answered_fixes_mend.ensures.stand c.answers_step.ensures
