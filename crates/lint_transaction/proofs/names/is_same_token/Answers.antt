use Rattle.std.proofs.Common.{◌∙◌, sym}
use Rattle.std.proofs.lemmas.Slice.Eq.{bytes_eq-Decides}
use Rattle.sql_tree.specs.Range.{token_at}
use Rattle.lint_transaction.proofs.NameLaws.{same_token}
use Rattle.lint_transaction.proofs.names.is_same_token.Goals as goal

pub returns : goal.returns
returns c h =
    let toks = c.args.p.now.toks in
    same_token c.args.p.now.text (token_at toks c.args.i) (token_at toks c.args.j)
    (sym c.is_name_at.ensures ∙ c.if-not-is_name_at.false)
    (sym c.is_name_at-else-not-is_name_at.ensures ∙ c.if-not-is_name_at-2.false)
    (sym c.token_text.ensures ∙ (bytes_eq-Decides _ _).0 (sym c.eq.ensures ∙ h) ∙ c.token_text-2.ensures)
