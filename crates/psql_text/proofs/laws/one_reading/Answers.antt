use Rattle.psql_text.specs.Psql.{start}
use Rattle.psql_text.proofs.Once.{reads_one}
use Rattle.psql_text.proofs.laws.one_reading.Goals as goal

pub returns : goal.returns
returns c = λ t ps qs p q. reads_one (start t) ps qs p q
