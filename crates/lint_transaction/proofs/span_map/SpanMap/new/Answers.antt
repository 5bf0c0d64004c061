use Rattle.lint_transaction.proofs.MapLaws.{empty_map}
use Rattle.lint_transaction.proofs.span_map.SpanMap.new.Goals as goal

pub returns-clause-empty : goal.returns-clause-empty
returns-clause-empty g c tree names = empty_map tree _ c.new.ensures.empty c.new-2.ensures.items names
