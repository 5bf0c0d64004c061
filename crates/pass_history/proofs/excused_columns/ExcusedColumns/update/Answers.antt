use Rattle.lint_pass.proofs.of_lint_transaction.SpanLaws.{on_ok}
use Rattle.pass_history.proofs.NotNullLaws.{knowing_next}
use Rattle.pass_history.proofs.excused_columns.ExcusedColumns.update.Goals as goal

pub returns-clause-knows : goal.returns-clause-knows
returns-clause-knows c =
    on_ok c.note.result _ _
    (λ noted es h.
    knowing_next c.args.p.now c.args.table c.args.a.now c.validated_name.result c.check_of.result c.validated_name.ensures c.check_of.ensures c.args.self.now c.excuse.new.self c.note.new.self
    c.in_ok-excuse.ensures.ok c.in_ok-excuse.ensures.checks c.note.ensures.tables c.note.ensures.columns noted es h)
    c.note.ensures.ok
