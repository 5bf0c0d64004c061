use Rattle.std.proofs.Common.{◌≡◌, ◌++◌, take}
use Rattle.std.specs.List.{flat_map}
use Rattle.check_baseline.specs.Written.{report_line}
use Rattle.check_baseline.proofs.lines.push_lines.Given as goal

-- the lines of the reports so far were added
abbrev pub invariant-loop-report : goal.invariant-loop-report
invariant-loop-report l = l.to.items ≡ l.fn.to.items ++ flat_map (report_line l.name l.text) (take l.report-index l.reports)
