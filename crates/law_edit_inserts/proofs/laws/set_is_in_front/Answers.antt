use Rattle.law_edit_inserts.proofs.Sets.{set_in_front}
use Rattle.law_edit_inserts.proofs.laws.set_is_in_front.Goals as goal

pub returns : goal.returns
returns c = set_in_front
