use Rattle.std.proofs.Common.{take}
use Rattle.lint_ignore.specs.Reported.{IsReportIndex}
use Rattle.lint_ignore.proofs.reported.ReportIndex.new.Given as goal

-- the index knows the reports so far
abbrev pub invariant-loop-report : goal.invariant-loop-report
invariant-loop-report l = IsReportIndex l.index l.text (take l.report-index l.all)
