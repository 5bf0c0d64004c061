use Rattle.law_clean.proofs.CleanLaws as law
use Rattle.law_clean.proofs.laws.default_rules_suffice.Goals as goal

pub returns : goal.returns
returns c = law.default_rules_suffice
