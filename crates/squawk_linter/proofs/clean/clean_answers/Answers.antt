use Rattle.squawk_linter.proofs.CleanLaws as law
use Rattle.squawk_linter.proofs.clean.clean_answers.Goals as goal

pub returns : goal.returns
returns c =
    law.clean_answers_work_alone c.clean_answers_have_no_old_work.ensures c.clean_answers_validate_apart.ensures c.reports_lie.ensures
