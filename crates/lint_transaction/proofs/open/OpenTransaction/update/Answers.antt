use Rattle.lint_transaction.proofs.TrackingLaws.{open_next_stmt}
use Rattle.lint_transaction.proofs.open.OpenTransaction.update.Goals as goal

pub returns-clause-tracks : goal.returns-clause-tracks
returns-clause-tracks c tree assumed i e h =
    open_next_stmt tree assumed i c.args.s.now c.args.self.now _ e h c.go_after.ensures
