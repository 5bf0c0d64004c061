use Rattle.std.proofs.Common.{arith}
use Rattle.lock_machine.proofs.plain.is_unplain.Goals as goal

pub returns-else-is_valued_reindex : goal.returns-else-is_valued_reindex
returns-else-is_valued_reindex c = grind arith
