use Rattle.pass_session.proofs.OpenLaws.{left_next}
use Rattle.pass_session.proofs.ban_uncommitted_transaction.BanUncommittedTransactionStepPass.step.Goals as goal

pub returns-clause-state : goal.returns-clause-state
returns-clause-state c =
    left_next c.args._p.now c.args._i c.args.s.now c.args.state.now.begin c.go_after.new.self.begin c.requires.stmt c.requires.state c.go_after.ensures
