use Rattle.std.proofs.Common.{◌∙◌, sym, ◌+◌}
use Rattle.hazard_find.proofs.GuardLaws.{tokens_next}
use Rattle.hazard_find.proofs.guards.tokens_show.Goals as goal

pub loop-i-preserved : goal.loop-i-preserved
loop-i-preserved c =
    tokens_next c.args.p.now c.args.word.now (c.args.last + 1) c.loop-i.i c.min-limit.result c.tokens.result.now _ c.tokens.ensures.value c.min-limit.ensures
    c.loop-i-test.true c.loop-i.invariant (sym c.if-token_shows.false ∙ c.token_shows.ensures)
