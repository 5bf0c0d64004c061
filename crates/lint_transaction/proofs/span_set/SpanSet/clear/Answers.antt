use Rattle.lint_transaction.proofs.SpanLaws.{empty_span}
use Rattle.lint_transaction.proofs.span_set.SpanSet.clear.Goals as goal

pub returns-clause-empty : goal.returns-clause-empty
returns-clause-empty c tree names = empty_span tree _ c.forget.ensures.hashed c.forget.ensures.others names
