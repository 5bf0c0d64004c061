use Rattle.std.proofs.lemmas.Result.{IfOk-weaker}
use Rattle.lsp_linter.proofs.Linted.{linted}
use Rattle.lsp_linter.proofs.Placing.{lexed_of, reports_of}
use Rattle.lsp_linter.proofs.text.lint_tree.Goals as goal

pub shown_of-requires-clause-tokens : goal.shown_of-requires-clause-tokens
shown_of-requires-clause-tokens c =
    lexed_of c.args.file.now.text c.text-text.result.now c.args.file.now.toks c.tokens-tokens.result.now c.text-text.ensures.value c.tokens-tokens.ensures.value c.text-text.ensures.tree.lexed

pub shown_of-requires-clause-reports : goal.shown_of-requires-clause-reports
shown_of-requires-clause-reports c =
    reports_of c.args.file.now.text c.text-text.result.now c.in_ok-reports.reports.items c.text-text.ensures.value c.in_ok-reports.ensures.placed

pub returns-clause-lints : goal.returns-clause-lints
returns-clause-lints c =
    IfOk-weaker c.shown_of.result _ _
    (λ found h. linted c.args.file.now c.args.linter.now.linter.rules c.args.linter.now.hazards c.args.linter.now.linter.settings c.text-text.result.now c.tokens-tokens.result.now c.in_ok-reports.reports.items found.items
    c.text-text.ensures.tree c.text-text.ensures.value c.tokens-tokens.ensures.value c.in_ok-reports.ensures.reports h)
    c.shown_of.ensures
