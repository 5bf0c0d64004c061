use Rattle.check_print.proofs.Pushing.{report_pushed, reports_end}
use Rattle.check_print.proofs.answer.push_reports.Goals as goal

pub loop-report-preserved : goal.loop-report-preserved
loop-report-preserved c =
    let l = c.loop-report in
    report_pushed c.args.style c.args.file.now c.args.reports.now l.report-index l.behind c.report-item.result _ _ _ c.loop-report-test.true c.report-item.is l.invariant
    c.in_ok-push_separated.ensures

pub returns : goal.returns
returns c =
    let l = c.loop-report in
    reports_end c.args.style c.args.file.now c.args.reports.now l.report-index l.behind _ _ c.loop-report-test.false l.invariant
