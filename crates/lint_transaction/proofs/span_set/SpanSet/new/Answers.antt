use Rattle.lint_transaction.proofs.SpanLaws.{empty_span}
use Rattle.lint_transaction.proofs.span_set.SpanSet.new.Goals as goal

pub returns-clause-empty : goal.returns-clause-empty
returns-clause-empty c tree names = empty_span tree _ c.new.ensures.empty c.new-2.ensures.items names
