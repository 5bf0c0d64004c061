use Rattle.std.proofs.Common.{All, subst, sym}
use Rattle.std.specs.Prelude.{not}
use Rattle.std.proofs.lemmas.List.Elements.{All-filter}
use Rattle.checked_file.specs.Sound.{IsReportIn}
use Rattle.check_baseline.specs.Known.{is_known}
use Rattle.check_baseline.proofs.known.part_left.Goals as goal

pub returns-clause-placed : goal.returns-clause-placed
returns-clause-placed c = record {
  short = c.requires.short;
  faults = c.requires.faults;
  reports = subst (λ xs. All (IsReportIn c.args.text.now) xs) (sym c.in_ok-reports.ensures)
      (All-filter (λ v. not (is_known c.args.baseline.now c.args.name.now c.args.text.now v)) (IsReportIn c.args.text.now) c.args.partial.reports.items c.requires.reports);
}
