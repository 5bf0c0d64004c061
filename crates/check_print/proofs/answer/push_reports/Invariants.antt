use Rattle.std.proofs.Common.{◌≡◌, ◌++◌, drop}
use Rattle.check_print.specs.Printed.{printed_reports}
use Rattle.check_print.proofs.answer.push_reports.Given as goal

-- what was added, and then the reports that are left
abbrev pub invariant-loop-report : goal.invariant-loop-report
invariant-loop-report l =
    l.to.items ++ printed_reports l.style l.behind l.file (drop l.report-index l.reports) ≡ l.initial.to.items ++ printed_reports l.style l.follows l.file l.reports
