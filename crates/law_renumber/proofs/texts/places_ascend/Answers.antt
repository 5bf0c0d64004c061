use Rattle.law_renumber.proofs.Places as law
use Rattle.law_renumber.proofs.texts.places_ascend.Goals as goal

pub returns : goal.returns
returns c = record { places = law.places_ascend }
