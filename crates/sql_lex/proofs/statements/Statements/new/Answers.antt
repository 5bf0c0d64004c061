use Rattle.std.proofs.Common.{ap, sym, ◌∙◌}
use Rattle.sql_token.specs.Depth.{statements_from}
use Rattle.sql_token.specs.Terminal.{terminals, terminals_from}
use Rattle.sql_token.proofs.Statements.{by_counts}
use Rattle.sql_lex.proofs.statements.Statements.new.Goals as goal

pub returns : goal.returns
unfolding terminals
returns c =
    let e = c.as_bytes.ensures.value in
    ap (λ t. statements_from 0 0 (terminals_from t 0 c.args.toks.now)) e ∙ sym (by_counts (terminals c.args.text.now c.args.toks.now))
