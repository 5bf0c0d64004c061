use Rattle.std.proofs.Common.{arith, sym}
use Rattle.squawk_print.proofs.Vectors.{prefix_grows, is_not_where, is_where, last_tells, not_not, part_fails}
use Rattle.squawk_print.proofs.escape.is_long_plain.Goals as goal

pub looking-preserved : goal.looking-preserved
looking-preserved c = record {
  within = omega (arith, c.looking-test.true);
  plain = prefix_grows c.looking.at 16 c.args.text.now c.looking.invariant.plain (is_where c.has_special.result _ c.has_special.ensures c.if-has_special.false);
}

pub returns-then-has_special : goal.returns-then-has_special
returns-then-has_special c = sym (part_fails c.looking.at 16 c.args.text.now (is_not_where c.has_special.result _ c.has_special.ensures c.if-has_special.true))

pub returns : goal.returns
returns c =
    last_tells c.looking.at 16 c.args.text.now c.looking.invariant.plain c.requires (omega (arith, c.looking-test.false)) _ (not_not c.has_special-2.result _ c.has_special-2.ensures)
