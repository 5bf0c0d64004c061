use Rattle.std.proofs.Common.{arith}
use Rattle.squawk_linter.proofs.lint.found_by.Goals as goal

pub returns : goal.returns
returns g c = grind arith

pub returns-in_err-run : goal.returns-in_err-run
returns-in_err-run g c = grind arith
