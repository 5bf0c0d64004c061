use Rattle.lint_ignore.proofs.Uses.{index_goes_on}
use Rattle.lint_ignore.proofs.reported.ReportIndex.new.Goals as goal

pub loop-report-preserved : goal.loop-report-preserved
loop-report-preserved c = index_goes_on c.loop-report.index c.add.new.self c.args.text.now c.args.all.now c.loop-report.report-index c.report-item.result c.loop-report.invariant c.loop-report-test.true c.report-item.is c.in_ok-add.ensures
