use Rattle.text_diff.proofs.Lining.{first_line, last_cut}
use Rattle.text_diff.proofs.line.cut_line.Goals as goal

pub returns-in-None-clause-first : goal.returns-in-None-clause-first
returns-in-None-clause-first c = last_cut c.args.text.now (cc) c.in-None.ensures

pub returns-in-Some-clause-first : goal.returns-in-Some-clause-first
returns-in-Some-clause-first c = first_line c.args.text.now c.in-Some.feed c.in-Some.ensures
