use Rattle.std.proofs.Common.{arith}
use Rattle.lint_pass.proofs.cursor.Cursor.next.Goals as goal

pub returns-then-i-stmts-clause-steps : goal.returns-then-i-stmts-clause-steps
returns-then-i-stmts-clause-steps g c = grind arith
