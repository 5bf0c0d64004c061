use Rattle.std.proofs.Common.{◌≡◌, ◌++◌, All}
use Rattle.std.specs.Vec.Iter.{into_iter_items}
use Rattle.checked_file.specs.Sound.{IsReportIn}
use Rattle.check_baseline.specs.Known.{unknown_reports}
use Rattle.check_baseline.proofs.known.unknown_reports.Given as goal

-- what is kept, and then what is to be kept of the others
abbrev pub invariant-loop-report : goal.invariant-loop-report
invariant-loop-report l = record {
  kept : l.kept.items ++ unknown_reports l.baseline l.name l.text (into_iter_items l.report-iterator) ≡ unknown_reports l.baseline l.name l.text l.fn.reports.items;
  placed : All (IsReportIn l.text) (into_iter_items l.report-iterator);
}
