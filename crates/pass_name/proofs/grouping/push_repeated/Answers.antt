use Rattle.std.proofs.Common.{arith, rules}
use Rattle.std.proofs.lemmas.Grind.{common_steps}
use Rattle.pass_name.proofs.grouping.push_repeated.Goals as goal

pub returns-in_err-push : goal.returns-in_err-push
returns-in_err-push c = search rules

pub returns-in_ok-push : goal.returns-in_ok-push
returns-in_ok-push c = grind (arith, common_steps)

pub returns-else-len-gt1 : goal.returns-else-len-gt1
returns-else-len-gt1 c = search rules
