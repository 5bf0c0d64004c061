use Rattle.sql_token.proofs.TokenLaws.{one_lexed, one_open, not_both}
use Rattle.sql_token.proofs.laws.one_answer.Goals as goal

pub returns-clause-lexed : goal.returns-clause-lexed
returns-clause-lexed c = one_lexed

pub returns-clause-open : goal.returns-clause-open
returns-clause-open c = one_open

pub returns-clause-not_both : goal.returns-clause-not_both
returns-clause-not_both c = not_both
