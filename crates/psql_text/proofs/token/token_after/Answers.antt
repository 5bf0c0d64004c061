use Rattle.std.proofs.Common.{ap, sym, ◌∙◌}
use Rattle.std.proofs.lemmas.List.{take_rest}
use Rattle.sql_lex.specs.Signs.{begins_sign}
use Rattle.sql_lex.proofs.SignLaws.{sign_at}
use Rattle.psql_text.proofs.token.token_after.Goals as goal

pub returns-then-begins_with_sign-clause-found : goal.returns-then-begins_with_sign-clause-found
returns-then-begins_with_sign-clause-found c =
    let h = c.requires.signs c.if-is_after_operator.true in
    sign_at c.args.text.now c.args.at h.0 c.requires.begins
    (ap begins_sign (sym (take_rest c.args.text.now c.args.at)) ∙ sym c.begins_with_sign.ensures ∙ c.if-begins_with_sign.true) h.1
