use Rattle.std.proofs.Common.{◌∙◌, sym}
use Rattle.pass_name.proofs.LongTokens.{no_long_reports}
use Rattle.pass_name.proofs.identifier_too_long.IdentifierTooLongStatementPass.report.Goals as goal

pub returns-then-not-has_long_token-clause-ok : goal.returns-then-not-has_long_token-clause-ok
returns-then-not-has_long_token-clause-ok c =
    no_long_reports c.args.p.now c.args.s.now c.args.out.now (sym c.has_long_token.ensures ∙ c.if-not-has_long_token.true)
