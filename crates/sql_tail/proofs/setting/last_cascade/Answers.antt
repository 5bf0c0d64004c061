use Rattle.std.proofs.Common.{arith}
use Rattle.std.proofs.lemmas.Grind.{common_steps}
use Rattle.sql_tree.specs.Tails.{last_cascade}
use Rattle.sql_token.specs.Terminal.{is_keyword}
use Rattle.sql_tail.proofs.setting.last_cascade.Goals as goal

pub returns-else-is_keyword : goal.returns-else-is_keyword
unfolding last_cascade is_keyword
returns-else-is_keyword c = grind (arith, common_steps)

pub returns-then-is_keyword : goal.returns-then-is_keyword
unfolding last_cascade is_keyword
returns-then-is_keyword c = grind (arith, common_steps)
