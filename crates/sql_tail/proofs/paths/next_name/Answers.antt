use Rattle.std.proofs.Common.{arith}
use Rattle.std.proofs.lemmas.Grind.{common_steps}
use Rattle.sql_tail.specs.Paths.{next_name}
use Rattle.sql_tail.proofs.paths.next_name.Goals as goal

pub returns-in-len2-up-clause-value : goal.returns-in-len2-up-clause-value
unfolding next_name
returns-in-len2-up-clause-value c = grind (arith, common_steps)
