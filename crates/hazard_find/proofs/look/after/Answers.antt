use Rattle.std.proofs.Common.{arith}
use Rattle.hazard_find.proofs.LookLaws.{toks_few}
use Rattle.hazard_find.proofs.look.after.Goals as goal

pub overflow_add-result : goal.overflow_add-result
overflow_add-result c = omega (arith, c.requires, toks_few c.args.p.now c.tokens-tokens.ensures.tree)
