use Rattle.std.proofs.Common.{arith}
use Rattle.squawk_print.proofs.escape.is_plain.Goals as goal

pub returns-else-byte-ne13 : goal.returns-else-byte-ne13
returns-else-byte-ne13 c = grind arith

pub returns-then-byte-ne13 : goal.returns-then-byte-ne13
returns-then-byte-ne13 c = grind arith
