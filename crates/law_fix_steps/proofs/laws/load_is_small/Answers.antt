use Rattle.law_fix_steps.proofs.Loads.{load_small}
use Rattle.law_fix_steps.proofs.laws.load_is_small.Goals as goal

pub returns : goal.returns
returns c = load_small
