use Rattle.lint_transaction.proofs.SpanLaws.{on_ok, list_span}
use Rattle.lint_transaction.proofs.span_set.SpanSet.insert.Goals as goal

pub returns-then-len-lt-FEW-clause-ok : goal.returns-then-len-lt-FEW-clause-ok
returns-then-len-lt-FEW-clause-ok c =
    on_ok c.list.result _ _ (λ lists. list_span c.args.p.now c.args.self.now c.list.new.self c.args.span lists) c.list.ensures.ok
