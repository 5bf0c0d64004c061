use Rattle.std.proofs.Common.{◌==◌, sym, ◌∙◌, arith}
use Rattle.std.proofs.lemmas.List.{take_rest}
use Rattle.sql_lex.proofs.Plain.{word_at, punct_at}
use Rattle.sql_lex.proofs.lexer.plain_token.Goals as goal

pub returns-in-Some-Word-clause-found : goal.returns-in-Some-Word-clause-found
returns-in-Some-Word-clause-found c =
    word_at c.args.text.now c.args.at c.run_before.result (take_rest c.args.text.now c.args.at) (sym c.in-Some-Word.field-0-is ∙ c.in-Some-Word.ensures (c.args.at == 0)) c.run_before.ensures.run

pub returns-in-Some-Punct-clause-found : goal.returns-in-Some-Punct-clause-found
returns-in-Some-Punct-clause-found c =
    punct_at c.args.text.now c.args.at (take_rest c.args.text.now c.args.at) (sym c.in-Some-Punct.field-0-is ∙ c.in-Some-Punct.ensures (c.args.at == 0)) (omega (arith, c.requires.before, c.requires.stop.within))
