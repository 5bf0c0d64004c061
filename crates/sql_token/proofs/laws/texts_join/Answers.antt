use Rattle.sql_token.proofs.TokenLaws.{joins}
use Rattle.sql_token.proofs.laws.texts_join.Goals as goal

pub returns : goal.returns
returns c = joins
