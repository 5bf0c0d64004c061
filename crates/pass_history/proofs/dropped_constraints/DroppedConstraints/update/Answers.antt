use Rattle.lint_pass.proofs.of_lint_transaction.SpanLaws.{on_ok}
use Rattle.pass_history.proofs.DropLaws.{dropping_next}
use Rattle.pass_history.proofs.dropped_constraints.DroppedConstraints.update.Goals as goal

pub returns : goal.returns
returns c =
    on_ok c.take.result _ _
    (λ taken es h.
    dropping_next c.args.p.now c.args.table c.args.a.now c.added_name.result c.dropped_name.result c.added_name.ensures c.dropped_name.ensures c.args.self.now c.add.new.self c.take.new.self
    c.in_ok-add.ensures.ok taken c.take.ensures.key c.in_ok-add.ensures.key es h)
    c.take.ensures.ok
