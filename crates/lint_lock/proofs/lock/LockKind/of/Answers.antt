use Rattle.std.proofs.Common.{arith}
use Rattle.lint_lock.proofs.lock.LockKind.of.Goals as goal

pub returns-in-CommentOn : goal.returns-in-CommentOn
returns-in-CommentOn c = grind arith

pub returns-in-Vacuum : goal.returns-in-Vacuum
returns-in-Vacuum c = grind arith

pub returns-in-Vacuum-2 : goal.returns-in-Vacuum-2
returns-in-Vacuum-2 c = grind arith
