use Rattle.law_made_texts.proofs.Grown.{made_is_valid}
use Rattle.law_made_texts.proofs.laws.made_is_valid.Goals as goal

pub returns : goal.returns
returns c = made_is_valid
