use Rattle.std.proofs.Common.{List, ℕ, inl, inr, subst}
use Rattle.std.proofs.lemmas.Result.{IfOk-weaker}
use Rattle.lsp_linter.specs.Shown.{Lints}
use Rattle.lsp_linter.proofs.text.check_text.Goals as goal

pub returns-in-Ok-clause-shows : goal.returns-in-Ok-clause-shows
returns-in-Ok-clause-shows c =
    IfOk-weaker c.lint_tree.result _ _
    (λ found h. inl (subst (λ (t : List ℕ). Lints c.args.linter.now.linter.rules c.args.linter.now.hazards c.args.linter.now.linter.settings t found.items) c.in-Ok.ensures.ok.0 h))
    c.lint_tree.ensures.lints

pub returns-in-Err-clause-shows : goal.returns-in-Err-clause-shows
returns-in-Err-clause-shows c = IfOk-weaker c.refusals_of.result _ _ (λ found h. inr h) c.refusals_of.ensures
