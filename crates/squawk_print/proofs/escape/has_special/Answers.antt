use Rattle.std.proofs.Common.{arith, sym}
use Rattle.squawk_print.proofs.Vectors.{has_mark}
use Rattle.squawk_print.proofs.escape.has_special.Goals as goal

pub returns : goal.returns
returns c = has_mark c.args.bytes 16 (sym c.fits-bytes.0) (omega arith)
