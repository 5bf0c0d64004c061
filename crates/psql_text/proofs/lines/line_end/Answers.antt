use Rattle.std.proofs.lemmas.List.{take_rest}
use Rattle.psql_text.proofs.LineEnds.{line_to, line_through}
use Rattle.psql_text.proofs.lines.line_end.Goals as goal

pub returns-in-Some : goal.returns-in-Some
returns-in-Some c = line_to c.args.text.now _ c.args.at c.in-Some.len (take_rest c.args.text.now c.args.at) c.requires c.in-Some.ensures.0.high c.in-Some.ensures.0.before c.in-Some.ensures.1

pub returns-in-None : goal.returns-in-None
returns-in-None c = line_through c.args.text.now _ c.args.at (take_rest c.args.text.now c.args.at) c.requires c.in-None.ensures
