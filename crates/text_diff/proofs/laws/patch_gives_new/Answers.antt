use Rattle.text_diff.proofs.Patching.{gives_new}
use Rattle.text_diff.proofs.laws.patch_gives_new.Goals as goal

pub returns : goal.returns
returns c = gives_new
