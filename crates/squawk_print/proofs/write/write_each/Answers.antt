use Rattle.std.proofs.Common.{arith}
use Rattle.squawk_print.proofs.Pieces.{each_step, each_stop}
use Rattle.squawk_print.proofs.write.write_each.Goals as goal

pub returns-in_err-write_one-clause-part : goal.returns-in_err-write_one-clause-part
returns-in_err-write_one-clause-part g c =
    each_stop _ _ _ c.args.violations.now c.writing.violation-index c.violation-item.result _ _ (omega arith) c.violation-item.is
    c.writing.invariant.so_far c.write_one.ensures.part

pub writing-preserved : goal.writing-preserved
writing-preserved g c = record {
  so_far = each_step _ _ _ c.args.violations.now c.writing.violation-index c.violation-item.result _ _ _ (omega arith) c.violation-item.is
      c.writing.invariant.so_far c.in_ok-write_one.ensures.whole;
  later = omega (arith, c.writing.invariant.later, c.write_one.ensures.cause.later);
  capacity = omega (arith, c.write_one.ensures.capacity);
}
