use Rattle.psql_text.proofs.Steps.{body_goes, body_moves, endless_goes}
use Rattle.psql_text.proofs.reading.step_into.Goals as goal

pub returns-in-None-clause-goes : goal.returns-in-None-clause-goes
returns-in-None-clause-goes c = λ ms h. endless_goes c.args.text.now c.args.reading ms h c.requires.plain c.requires.begins c.in-None.ensures.body

pub returns-in-Some-clause-goes : goal.returns-in-Some-clause-goes
returns-in-Some-clause-goes c = λ ms h. body_goes c.args.text.now c.args.reading c.in-Some.end ms h c.requires.plain c.requires.begins c.in-Some.ensures.body

pub returns-in-Some-clause-moves : goal.returns-in-Some-clause-moves
returns-in-Some-clause-moves c =
    body_moves c.args.text.now c.args.reading c.in-Some.end c.requires.place c.requires.begins c.in-Some.ensures.within.0 c.in-Some.ensures.within.1 c.in-Some.ensures.whole
