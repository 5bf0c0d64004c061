use Rattle.std.proofs.Common.{arith}
use Rattle.sql_constraint.proofs.list.put.Goals as goal

pub returns : goal.returns
returns g c = grind arith

pub returns-in_err-push : goal.returns-in_err-push
returns-in_err-push g c = grind arith

pub returns-in_err-reserve_exact : goal.returns-in_err-reserve_exact
returns-in_err-reserve_exact g c = grind arith
