use Rattle.std.proofs.Common.{arith}
use Rattle.squawk_linter.proofs.answer.unused_of.Goals as goal

pub returns : goal.returns
returns c = grind arith

pub returns-in_err-unused_pieces : goal.returns-in_err-unused_pieces
returns-in_err-unused_pieces c = grind arith
