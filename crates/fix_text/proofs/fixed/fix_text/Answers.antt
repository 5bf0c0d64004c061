use Rattle.fix_text.proofs.fixed.fix_text.Goals as goal

pub returns-in-Ok-clause-unterminated : goal.returns-in-Ok-clause-unterminated
returns-in-Ok-clause-unterminated c = λ at short opens. c.in_ok-file.ensures.unterminated at short opens

pub returns-in-Ok-clause-syntax : goal.returns-in-Ok-clause-syntax
returns-in-Ok-clause-syntax c = λ at fault. c.in_ok-file.ensures.syntax at fault
