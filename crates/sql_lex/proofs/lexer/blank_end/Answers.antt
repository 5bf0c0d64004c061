use Rattle.sql_lex.proofs.Plain.{blank_here}
use Rattle.sql_lex.proofs.lexer.blank_end.Goals as goal

pub returns-clause-found : goal.returns-clause-found
returns-clause-found c = blank_here c.args.text.now c.args.at c.run_before.result c.requires.blank c.run_before.ensures.run
