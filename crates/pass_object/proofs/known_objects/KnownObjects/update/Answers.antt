use Rattle.lint_pass.proofs.of_lint_transaction.SpanLaws.{on_ok}
use Rattle.pass_object.proofs.ObjectLaws.{objects_next}
use Rattle.pass_object.proofs.known_objects.KnownObjects.update.Goals as goal

pub returns : goal.returns
returns c =
    on_ok c.take.result _ _ (λ put i e h. objects_next c.args.p.now i c.args.s.now c.created.result c.args.self.now c.take.new.self e c.created.ensures put h) c.take.ensures
