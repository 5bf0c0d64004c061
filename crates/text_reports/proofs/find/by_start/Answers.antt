use Rattle.std.proofs.Common.{[], None, ◌<◌, refl, rules}
use Rattle.std.proofs.lemmas.List.Sorted.{answers_always, All-permutation}
use Rattle.hazard_find.specs.hazard_base.declared.hazard.Hazard.TheVariants as hazard
use Rattle.fix_class.specs.lint_report.declared.code.Code.TheVariants as code
use Rattle.squawk_linter.proofs.Sorting.{by_key_from_sort}
use Rattle.text_reports.specs.Reports.{start_of}
use Rattle.text_reports.proofs.find.by_start.Goals as goal

pub returns : goal.returns
returns c = λ n all.
    by_key_from_sort start_of
    (λ s. record { code = code.Hazard hazard.JsonColumn; message = []; text_range = record { start = s; end = s }; statement = record { start = s; end = s }; note = None; help = None; fix = None })
    (λ s. refl) n c.args.reports.items c.sort_by_key.new.self.items
    (c.in_ok-sort_by_key.ensures.sorted start_of (answers_always _ _ _ (λ f a r g h. search rules)))
    (c.in_ok-sort_by_key.ensures.stable start_of (answers_always _ _ _ (λ f a r g h. search rules)))
    (All-permutation (λ v. start_of v < n) c.args.reports.items c.sort_by_key.new.self.items c.sort_by_key.ensures.permutation all)

pub returns-in_err-sort_by_key : goal.returns-in_err-sort_by_key
returns-in_err-sort_by_key c = search rules
