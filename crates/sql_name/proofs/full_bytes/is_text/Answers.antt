use Rattle.std.proofs.Common.{arith}
use Rattle.sql_name.proofs.full_bytes.is_text.Goals as goal

pub loop-byte-preserved : goal.loop-byte-preserved
loop-byte-preserved c = grind arith

pub returns-in_default : goal.returns-in_default
returns-in_default c = grind arith
