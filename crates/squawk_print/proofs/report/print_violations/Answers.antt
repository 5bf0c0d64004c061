use Rattle.std.proofs.Common.{[], refl, arith}
use Rattle.squawk_print.proofs.Pieces.{printed_is}
use Rattle.squawk_print.proofs.report.print_violations.Goals as goal

pub returns : goal.returns
returns c = let all = printed_is [] c.args.v.now refl in grind arith
