use Rattle.std.proofs.Common.{◌≡◌, ◌∙◌, ◌+◌, ◌<◌, List, ap, length, subst, sym}
use Rattle.std.specs.Prelude.{All}
use Rattle.std.specs.Str.{IsUtf8}
use Rattle.std.proofs.lemmas.Result.{IfOk-weaker}
use Rattle.fix_edit.specs.lint_base.declared.violation.Violation.{Violation}
use Rattle.squawk_linter.specs.ByStart.{by_key}
use Rattle.squawk_linter.specs.Reports.{gathered, reports_from, start_of, with_unknown_names}
use Rattle.squawk_linter.proofs.Gathering.{gathered_within}
use Rattle.squawk_linter.proofs.answer.answer.Goals as goal

pub returns : goal.returns
unfolding reports_from
returns c =
    let n = length c.args.file.now.text + 1 in
    let all : c.into_items.result.items ≡ gathered c.args.file.now (with_unknown_names c.args.file.now c.args.found) c.args.rules.now = c.into_items.ensures ∙ c.in_ok-all.ensures in
    let within = gathered_within c.args.file.now c.args.found c.args.rules.now c.requires.tree (subst IsUtf8 c.requires.text c.utf8.text) c.requires.lie in
    let near = subst (λ (vs : List Violation). All (λ v. start_of v < n) vs) (sym all) within in
    IfOk-weaker c.by_start.result _ _ (λ v h. h n near ∙ ap (λ (vs : List Violation). by_key start_of n vs) all) c.by_start.ensures
