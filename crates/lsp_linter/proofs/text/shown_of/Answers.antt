use Rattle.std.proofs.Common.{◌∙◌, All, List, ℕ, subst, sym}
use Rattle.std.proofs.lemmas.Result.{IfOk-weaker}
use Rattle.lsp_linter.proofs.Linted.{shown_same}
use Rattle.lsp_linter.proofs.Placing.{tokens_in}
use Rattle.lsp_shown.specs.Tokens.{TokenIn}
use Rattle.lsp_linter.proofs.text.shown_of.Goals as goal

pub long_tokens-requires : goal.long_tokens-requires
long_tokens-requires c =
    subst (λ (t : List ℕ). All (TokenIn t) c.args.tokens.now) (sym c.in_ok-index.ensures) (tokens_in c.args.text.now c.args.tokens.now c.utf8.text c.requires.tokens)

pub notes_in-requires-clause-tokens : goal.notes_in-requires-clause-tokens
notes_in-requires-clause-tokens c = tokens_in c.args.text.now c.args.tokens.now c.utf8.text c.requires.tokens

pub returns : goal.returns
returns c =
    IfOk-weaker c.shown.result _ _
    (λ found h. h ∙ shown_same c.in_ok-index.index c.args.text.now c.args.tokens.now c.as_slice.result.now c.as_slice-2.result.now c.args.reports.items c.in_ok-index.ensures (c.as_slice.ensures.value ∙ c.in_ok-long.ensures)
    (c.as_slice-2.ensures.value ∙ c.in_ok-notes.ensures))
    c.shown.ensures
