use Rattle.std.proofs.Common.{◌≡◌, All, map}
use Rattle.lsp_shown.specs.Places.{ReportIn}
use Rattle.lsp_shown.specs.Shown.{report_of}
use Rattle.lsp_shown.proofs.report.shown.Given as goal

-- what is shown so far; the reports that are left are in the text
abbrev pub invariant-loop-report : goal.invariant-loop-report
invariant-loop-report l = (l.made.items ≡ map (report_of l.index l.tokens l.notes) l.yielded) × All (ReportIn l.index) l.report-iterator.rest.items
