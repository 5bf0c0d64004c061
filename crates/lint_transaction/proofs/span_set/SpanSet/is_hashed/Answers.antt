use Rattle.std.proofs.Common.{arith}
use Rattle.lint_transaction.proofs.span_set.SpanSet.is_hashed.Goals as goal

pub returns-in-Some : goal.returns-in-Some
returns-in-Some c = grind arith
