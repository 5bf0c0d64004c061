use Rattle.law_clean.proofs.CleanLaws as law
use Rattle.law_clean.proofs.laws.clean_answers_have_no_old_work.Goals as goal

pub returns : goal.returns
returns c = law.clean_answers_have_no_old_work c.births_are_new.ensures
