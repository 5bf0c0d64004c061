use Rattle.psql_text.specs.Psql.Reads.{unclosed}
use Rattle.psql_text.specs.Reading.{state}
use Rattle.psql_text.proofs.reading.step_at.Goals as goal

pub returns-in-None-clause-goes : goal.returns-in-None-clause-goes
returns-in-None-clause-goes c = λ ms h. unclosed (state c.args.text.now c.args.reading ms) c.in-None.ensures.none
