use Rattle.law_listed_edits.proofs.Edits.{mended_by_one}
use Rattle.law_listed_edits.proofs.laws.listed_edits.Goals as goal

pub returns : goal.returns
returns c = mended_by_one
