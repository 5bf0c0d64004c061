use Rattle.psql_text.proofs.Plain.{nothing_read}
use Rattle.psql_text.proofs.laws.plain_texts_stay.Goals as goal

pub returns : goal.returns
returns c = λ t ps plain reads. nothing_read t ps plain reads
