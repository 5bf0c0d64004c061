use Rattle.std.proofs.Common.{arith}
use Rattle.pass_session.proofs.transaction_nesting.TransactionNestingMemory.go_after.Goals as goal

pub returns-then-is_end : goal.returns-then-is_end
returns-then-is_end c = grind arith
