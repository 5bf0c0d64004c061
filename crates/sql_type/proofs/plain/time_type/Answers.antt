use Rattle.std.proofs.Common.{arith}
use Rattle.std.proofs.lemmas.Grind.{common_steps}
use Rattle.sql_tree.specs.ColumnType.{time_type}
use Rattle.sql_type.proofs.plain.time_type.Goals as goal

pub returns : goal.returns
unfolding time_type
returns c = grind (arith, common_steps)

pub returns-in_err-with_zone : goal.returns-in_err-with_zone
unfolding time_type
returns-in_err-with_zone c = grind (arith, common_steps)
