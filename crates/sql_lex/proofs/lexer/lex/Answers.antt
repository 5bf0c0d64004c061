use Rattle.std.proofs.Common.{rules}
use Rattle.sql_lex.proofs.Answer.{only_lexed, only_open}
use Rattle.sql_lex.proofs.lexer.lex.Goals as goal

pub returns-clause-lexed : goal.returns-clause-lexed
returns-clause-lexed c = λ toks p. only_lexed (λ v. v.items) c.args.text.now c.tokens.result toks (search rules) (search rules) p

pub returns-clause-open : goal.returns-clause-open
returns-clause-open c = λ at p. only_open (λ v. v.items) c.args.text.now c.tokens.result at (search rules) (search rules) p
