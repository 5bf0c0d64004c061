use Rattle.sql_token.proofs.Boundaries.{keeps_characters}
use Rattle.sql_token.proofs.laws.characters_stay_whole.Goals as goal

pub returns : goal.returns
returns c = keeps_characters
