use Rattle.lint_base.specs.GrownLaws.{at_err}
use Rattle.lint_pass.specs.Bans.{by_row, lent}
use Rattle.lint_pass.proofs.PartLaws.{lent_all, lent_refused}
use Rattle.lint_pass.proofs.bans.report_by_rows.Goals as goal

pub returns-clause-ok : goal.returns-clause-ok
returns-clause-ok c =
    lent_all (by_row c.args.code c.args.at c.args.range) lent c.args.rows.now c.loop-row.row-index c.args.out.now c.loop-row.out c.loop-row-test.false c.loop-row.invariant

pub returns-in_err-report_by-clause-err : goal.returns-in_err-report_by-clause-err
returns-in_err-report_by-clause-err c =
    at_err _
    (lent_refused (by_row c.args.code c.args.at c.args.range) lent c.args.rows.now c.loop-row.row-index c.args.out.now c.loop-row.out c.report_by.new.out
    c.loop-row.invariant c.in_err-report_by.ensures.err)
