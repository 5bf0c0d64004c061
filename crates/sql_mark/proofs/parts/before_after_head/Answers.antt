use Rattle.std.proofs.lemmas.Grind.{common_steps}
use Rattle.std.proofs.Common.{arith, rules}
use Rattle.sql_mark.proofs.parts.before_after_head.Goals as goal

pub returns-then-begins_soon-clause-value : goal.returns-then-begins_soon-clause-value
returns-then-begins_soon-clause-value c = grind (arith, common_steps)

pub returns-then-begins_soon-clause-within : goal.returns-then-begins_soon-clause-within
returns-then-begins_soon-clause-within c = search rules

pub returns-clause-value : goal.returns-clause-value
returns-clause-value c = grind (arith, common_steps)

pub returns-clause-within : goal.returns-clause-within
returns-clause-within c = search rules
