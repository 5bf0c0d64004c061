use Rattle.std.proofs.Common.{subst, map, List, OnErr}
use Rattle.lint_pass.specs.lint_base.Grown.{GrownBy}
use Rattle.lint_pass.specs.lint_transaction.Transaction.{stmt_at}
use Rattle.lint_pass.specs.sql_tree.declared.nodes.Stmt.{Stmt}
use Rattle.lint_pass.specs.Ruled.{RuledRow, lent_ruled, ruled_on}
use Rattle.pass_client.proofs.security_compatibility.SecurityCompatibilityStepPass.step.Goals as goal

pub returns-clause-err : goal.returns-clause-err
returns-clause-err c =
    subst (λ (rows : List RuledRow). OnErr c.report_ruled.result (GrownBy c.args.out.now c.report_ruled.new.out (ruled_on rows c.args.p.now c.args.rules.now (stmt_at c.args.p.now c.args._i)))) c.rows.ensures
    (subst (λ (s : Stmt). OnErr c.report_ruled.result (GrownBy c.args.out.now c.report_ruled.new.out (ruled_on (map lent_ruled c.rows.result.now) c.args.p.now c.args.rules.now s))) c.requires.stmt
    c.report_ruled.ensures.err)
