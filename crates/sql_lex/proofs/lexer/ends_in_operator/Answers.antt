use Rattle.std.proofs.Common.{◌-◌, length, arith}
use Rattle.sql_lex.proofs.SignLaws.{after_tokens}
use Rattle.sql_lex.proofs.lexer.ends_in_operator.Goals as goal

pub returns-in-len1-up : goal.returns-in-len1-up
returns-in-len1-up c = λ is t j lead. after_tokens t 0 j c.args.toks.now (length c.args.toks.now - 1) _ lead (omega arith) (c.is_operator.ensures is)
