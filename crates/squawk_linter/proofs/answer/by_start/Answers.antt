use Rattle.std.proofs.Common.{[], ◌<◌, refl, rules}
use Rattle.std.proofs.lemmas.List.Sorted.{answers_always, All-permutation}
use Rattle.fix_edit.specs.lint_base.declared.rule.Rule.TheVariants as rule
use Rattle.fix_edit.specs.lint_base.Violations.{violation}
use Rattle.squawk_linter.specs.Reports.{start_of}
use Rattle.squawk_linter.proofs.Sorting.{by_key_from_sort}
use Rattle.squawk_linter.proofs.answer.by_start.Goals as goal

pub returns : goal.returns
returns c = λ n all.
    by_key_from_sort start_of (λ s. violation rule.UnusedIgnore [] (record { start = s; end = s })) (λ s. refl) n c.args.reports.items c.sort_by_key.new.self.items
    (c.in_ok-sort_by_key.ensures.sorted start_of (answers_always _ _ _ (λ f a r g h. search rules)))
    (c.in_ok-sort_by_key.ensures.stable start_of (answers_always _ _ _ (λ f a r g h. search rules)))
    (All-permutation (λ v. start_of v < n) c.args.reports.items c.sort_by_key.new.self.items c.sort_by_key.ensures.permutation all)

pub returns-in_err-sort_by_key : goal.returns-in_err-sort_by_key
returns-in_err-sort_by_key c = search rules
