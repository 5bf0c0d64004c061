use Rattle.std.proofs.Common.{◌≡◌, subst}
use Rattle.std.specs.Str.{IsUtf8}
use Rattle.squawk_linter.specs.lint_base.RuleSets.{Rules}
use Rattle.text_reports.proofs.Placing.{sorted_all}
use Rattle.text_reports.specs.Reports.{with_hazards}
use Rattle.text_reports.proofs.find.reports_of.Goals as goal

pub returns-clause-reports : goal.returns-clause-reports
returns-clause-reports c =
    let file = c.args.file.now in
    let old = c.args.linter.now in
    (sorted_all file old.linter.rules old.hazards old.linter.settings c.in_ok-reports.reports.items c.in_ok-found.found.items c.in_ok-list.list.items c.in_ok-sorted.sorted.items
    (record { read = c.requires.tree; utf8 = subst IsUtf8 c.requires.text c.utf8.text }) c.in_ok-reports.ensures.ok c.in_ok-reports.ensures.places c.in_ok-found.ensures
    (subst (λ (r : Rules). c.in_ok-list.list.items ≡ with_hazards old.linter.settings file r old.hazards c.in_ok-reports.reports.items c.in_ok-found.found.items) c.lint.ensures.rules (c.in_ok-list.ensures old.linter.settings c.in_ok-classes.ensures)) c.in_ok-sorted.ensures).0

pub returns-clause-placed : goal.returns-clause-placed
returns-clause-placed c =
    let file = c.args.file.now in
    let old = c.args.linter.now in
    (sorted_all file old.linter.rules old.hazards old.linter.settings c.in_ok-reports.reports.items c.in_ok-found.found.items c.in_ok-list.list.items c.in_ok-sorted.sorted.items
    (record { read = c.requires.tree; utf8 = subst IsUtf8 c.requires.text c.utf8.text }) c.in_ok-reports.ensures.ok c.in_ok-reports.ensures.places c.in_ok-found.ensures
    (subst (λ (r : Rules). c.in_ok-list.list.items ≡ with_hazards old.linter.settings file r old.hazards c.in_ok-reports.reports.items c.in_ok-found.found.items) c.lint.ensures.rules (c.in_ok-list.ensures old.linter.settings c.in_ok-classes.ensures)) c.in_ok-sorted.ensures).1
