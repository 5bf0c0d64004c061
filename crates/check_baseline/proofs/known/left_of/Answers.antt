use Rattle.std.proofs.Common.{All, subst, sym}
use Rattle.std.specs.Prelude.{not}
use Rattle.std.proofs.lemmas.List.Elements.{All-filter}
use Rattle.checked_file.specs.Sound.{IsIn, IsReportIn}
use Rattle.check_baseline.specs.Known.{is_known}
use Rattle.check_baseline.proofs.known.left_of.Goals as goal

pub returns-in_ok-kept-in-Reports-clause-placed : goal.returns-in_ok-kept-in-Reports-clause-placed
returns-in_ok-kept-in-Reports-clause-placed c =
    let all : All (IsReportIn c.args.text.now) c.in-Reports.reports.items = subst (λ a. IsIn c.args.text.now a) c.in-Reports.is c.requires in
    subst (λ xs. All (IsReportIn c.args.text.now) xs) (sym c.in_ok-kept-in-Reports.ensures)
    (All-filter (λ v. not (is_known c.args.baseline.now c.args.name.now c.args.text.now v)) (IsReportIn c.args.text.now) c.in-Reports.reports.items all)
