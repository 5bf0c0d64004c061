use Rattle.pass_session.proofs.OpenLaws.{begun_next}
use Rattle.pass_session.proofs.transaction_nesting.TransactionNestingRulePass.visit.Goals as goal

pub returns-clause-memory : goal.returns-clause-memory
returns-clause-memory c =
    begun_next c.args.p.now c.args._i c.args.s.now c.args.memory.now.is_in_transaction c.go_after.new.self.is_in_transaction c.requires.stmt c.requires.memory c.go_after.ensures
