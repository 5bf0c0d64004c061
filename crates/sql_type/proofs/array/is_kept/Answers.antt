use Rattle.std.proofs.Common.{arith}
use Rattle.sql_type.proofs.array.is_kept.Goals as goal

pub returns-after-matches : goal.returns-after-matches
returns-after-matches c = grind arith

pub returns-else-outside : goal.returns-else-outside
returns-else-outside c = grind arith
