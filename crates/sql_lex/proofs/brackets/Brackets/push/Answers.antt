use Rattle.std.proofs.Common.{arith}
use Rattle.sql_lex.proofs.Bits.{bits_fit, small_bit}
use Rattle.sql_lex.proofs.brackets.Brackets.push.Goals as goal

pub overflow_mul-self : goal.overflow_mul-self
overflow_mul-self c = omega (arith, bits_fit c.self.inside.depth c.self.inside.bits c.args.self.now c.self.view_is c.self.invariant c.requires)

pub overflow_add-self : goal.overflow_add-self
overflow_add-self c = omega (arith, c.from.ensures, bits_fit c.self.inside.depth c.self.inside.bits c.args.self.now c.self.view_is c.self.invariant c.requires, small_bit c.args.round)
