use Rattle.std.proofs.Common.{refl, arith}
use Rattle.sql_token.proofs.TokenLaws.{leads_push}
use Rattle.sql_lex.proofs.lexer.push_any.Goals as goal

pub any_token-requires-clause-signs : goal.any_token-requires-clause-signs
any_token-requires-clause-signs c = λ is. c.ends_in_operator.ensures is c.args.text.now c.args.at (rw c.deref.ensures.value c.requires.lead)

pub returns-in_ok-push-in-Some-clause-ok : goal.returns-in_ok-push-in-Some-clause-ok
returns-in_ok-push-in-Some-clause-ok c = (
  omega (arith, c.in-Some.ensures.within),
  omega (arith, c.in-Some.ensures.within),
  rw c.in_ok-push-in-Some.ensures.items (leads_push c.args.text.now 0 c.args.at c.args.toks.now.items _ c.requires.lead refl c.in-Some.ensures.found),
)

pub returns-in-None-clause-err : goal.returns-in-None-clause-err
returns-in-None-clause-err c = grind arith
