use Rattle.std.proofs.Common.{arith}
use Rattle.hazard_find.proofs.LookLaws.{toks_few}
use Rattle.hazard_find.proofs.look.number.Goals as goal

pub overflow_cast-result : goal.overflow_cast-result
overflow_cast-result c = omega (arith, c.requires, toks_few c.args.p.now c.tokens-tokens.ensures.tree)
