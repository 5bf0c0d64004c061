use Rattle.std.proofs.Common.{arith}
use Rattle.sql_write.proofs.query.after_on.Goals as goal

pub returns-in-Some-after_list : goal.returns-in-Some-after_list
returns-in-Some-after_list c = grind arith

pub returns-in-None : goal.returns-in-None
returns-in-None c = grind arith

pub returns-in-None-after_list : goal.returns-in-None-after_list
returns-in-None-after_list c = grind arith
