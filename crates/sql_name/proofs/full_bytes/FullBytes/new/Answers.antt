use Rattle.std.proofs.Common.{arith}
use Rattle.sql_name.specs.Name.{full_name}
use Rattle.sql_name.specs.FullBytes.{full_from}
use Rattle.sql_name.proofs.full_bytes.FullBytes.new.Goals as goal

pub returns-in-Some-eq34-default : goal.returns-in-Some-eq34-default
unfolding full_name full_from
returns-in-Some-eq34-default c = grind arith

pub returns-in_default : goal.returns-in_default
unfolding full_name full_from
returns-in_default c = grind arith
