use Rattle.lint_base.specs.GrownLaws.{at_err}
use Rattle.lint_pass.specs.Ruled.{on_ruled, lent_ruled}
use Rattle.lint_pass.proofs.PartLaws.{lent_all, lent_refused}
use Rattle.lint_pass.proofs.ruled.report_on_ruled_rows.Goals as goal

pub returns-clause-ok : goal.returns-clause-ok
returns-clause-ok c =
    lent_all (on_ruled c.args.rules c.args.p.now c.args.s.now) lent_ruled c.args.rows.now c.loop-row.row-index c.args.out.now c.loop-row.out c.loop-row-test.false c.loop-row.invariant

pub returns-in_err-report_on_ruled-clause-err : goal.returns-in_err-report_on_ruled-clause-err
returns-in_err-report_on_ruled-clause-err c =
    at_err _
    (lent_refused (on_ruled c.args.rules c.args.p.now c.args.s.now) lent_ruled c.args.rows.now c.loop-row.row-index c.args.out.now c.loop-row.out c.report_on_ruled.new.out
    c.loop-row.invariant c.in_err-report_on_ruled.ensures.err)
