use Rattle.std.proofs.Common.{List, length, ap, arith}
use Rattle.lint_ignore.specs.sql_tree.declared.nodes.Stmt.{Stmt}
use Rattle.lint_pass.proofs.Counts.{stmts_few}
use Rattle.lint_pass.proofs.cursor.statements.Goals as goal

pub returns-clause-few : goal.returns-clause-few
returns-clause-few c =
    omega (arith, ap (λ (xs : List Stmt). length xs) c.as_slice.ensures, ap (λ (xs : List Stmt). length xs) c.tree.ensures.value, stmts_few c.args.p.now c.tree.ensures.tree)
