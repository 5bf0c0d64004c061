use Rattle.lint_base.specs.GrownLaws.{at_err}
use Rattle.lint_pass.specs.Ruled.{by_ruled, lent_ruled}
use Rattle.lint_pass.proofs.PartLaws.{lent_all, lent_refused}
use Rattle.lint_pass.proofs.ruled.report_by_ruled_rows.Goals as goal

pub returns-clause-ok : goal.returns-clause-ok
returns-clause-ok c =
    lent_all (by_ruled c.args.rules c.args.at c.args.range) lent_ruled c.args.rows.now c.loop-row.row-index c.args.out.now c.loop-row.out c.loop-row-test.false c.loop-row.invariant

pub returns-in_err-report_by_ruled-clause-err : goal.returns-in_err-report_by_ruled-clause-err
returns-in_err-report_by_ruled-clause-err c =
    at_err _
    (lent_refused (by_ruled c.args.rules c.args.at c.args.range) lent_ruled c.args.rows.now c.loop-row.row-index c.args.out.now c.loop-row.out c.report_by_ruled.new.out
    c.loop-row.invariant c.in_err-report_by_ruled.ensures.err)
