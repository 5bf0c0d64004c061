use Rattle.psql_text.proofs.Steps.{ending_goes, ending_moves}
use Rattle.psql_text.proofs.reading.ending_at.Goals as goal

pub returns-clause-goes : goal.returns-clause-goes
returns-clause-goes c = λ ms h.
    ending_goes c.args.text.now c.args.reading c.line_end-end.result c.new.result ms h c.requires.begins.0 c.requires.begins.1 c.line_end-end.ensures c.new.ensures.summary

pub returns-clause-moves : goal.returns-clause-moves
returns-clause-moves c =
    ending_moves c.args.text.now c.args.reading c.line_end-end.result c.new.result c.requires.place c.requires.begins.1 c.requires.within c.line_end-end.ensures c.new.ensures.few.0 c.new.ensures.few.1
