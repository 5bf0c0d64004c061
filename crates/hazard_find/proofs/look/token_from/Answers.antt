use Rattle.std.proofs.Common.{Some, None, sym, ◌∙◌, arith}
use Rattle.hazard_find.proofs.LookLaws.{part_found, part_past}
use Rattle.hazard_find.proofs.look.token_from.Goals as goal

pub returns-then-next-limit-clause-value : goal.returns-then-next-limit-clause-value
returns-then-next-limit-clause-value c =
    part_past c.args.p.now c.tokens.result.now c.args.next c.args.end c.min-limit.result c.tokens.ensures.value c.min-limit.ensures (omega (arith, c.if-next-limit.true))

pub returns-in-Some-clause-value : goal.returns-in-Some-clause-value
returns-in-Some-clause-value c =
    part_found c.args.p.now c.tokens.result.now c.tokens-2.result.now c.args.next c.args.end c.min-limit.result (Some c.in-Some.k) c.tokens.ensures.value c.tokens-2.ensures.value
    c.min-limit.ensures (omega (arith, c.if-next-limit.false)) (sym c.in-Some.is ∙ c.first_significant.ensures.number)

pub returns-in-None-clause-value : goal.returns-in-None-clause-value
returns-in-None-clause-value c =
    part_found c.args.p.now c.tokens.result.now c.tokens-2.result.now c.args.next c.args.end c.min-limit.result None c.tokens.ensures.value c.tokens-2.ensures.value
    c.min-limit.ensures (omega (arith, c.if-next-limit.false)) (sym c.in-None.is ∙ c.first_significant.ensures.number)
