use Rattle.psql_text.proofs.Blanks.{all_stays}
use Rattle.psql_text.proofs.laws.places_stay.Goals as goal

pub returns : goal.returns
returns c = λ t ps. all_stays ps t
