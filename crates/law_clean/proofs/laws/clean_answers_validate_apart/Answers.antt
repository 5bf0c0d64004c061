use Rattle.law_clean.proofs.ValidationLaws as law
use Rattle.law_clean.proofs.laws.clean_answers_validate_apart.Goals as goal

pub returns : goal.returns
returns c = law.clean_answers_validate_apart
