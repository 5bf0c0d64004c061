use Rattle.std.proofs.Common.{Result, Ok, Err, OnOk}
use Rattle.lint_transaction.proofs.TrackingLaws.{tracking_next}
use Rattle.lint_transaction.proofs.tables.TablesCreatedInTransaction.update.Goals as goal

on_ok : {X E : Type 0} (r : Result X E) (P Q : Type 0) → (P → Q) → OnOk r P → OnOk r Q
on_ok (Ok x) P Q f p = f p
on_ok (Err e) P Q f p = tt

pub returns-clause-tracks : goal.returns-clause-tracks
returns-clause-tracks c =
    on_ok c.go_after.result _ _ (λ after assumed i e h. tracking_next c.args.p.now assumed i c.args.s.now c.args.self.now c.go_after.new.self e after h) c.go_after.ensures.ok
