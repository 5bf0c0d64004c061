use Rattle.std.proofs.Common.{arith}
use Rattle.sql_write.proofs.set.part_of.Goals as goal

pub returns-in_ok-targets-in-None : goal.returns-in_ok-targets-in-None
returns-in_ok-targets-in-None c = grind arith

pub returns-in_err-put-in-Some : goal.returns-in_err-put-in-Some
returns-in_err-put-in-Some c = grind arith

pub returns-in_err-targets-in-None : goal.returns-in_err-targets-in-None
returns-in_err-targets-in-None c = grind arith

pub returns-in_ok-put-in-Some : goal.returns-in_ok-put-in-Some
returns-in_ok-put-in-Some c = grind arith
