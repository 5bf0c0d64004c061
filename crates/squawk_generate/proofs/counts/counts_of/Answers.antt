use Rattle.std.proofs.Common.{◌∙◌, refl}
use Rattle.std.proofs.lemmas.List.{length-set}
use Rattle.squawk_generate.proofs.Counting.{counts_none, counts_more}
use Rattle.squawk_generate.proofs.counts.counts_of.Goals as goal

pub loop-violation-init : goal.loop-violation-init
loop-violation-init c = record { all = refl; counted = counts_none _ c.args.violations.now refl }

pub loop-violation-preserved : goal.loop-violation-preserved
loop-violation-preserved c = record {
  all = length-set c.loop-violation.counts c.number.result _ ∙ c.loop-violation.invariant.all;
  counted = counts_more c.loop-violation.counts c.args.violations.now c.loop-violation.violation-index c.violation-item.result c.number.result
      c.loop-violation-test.true c.violation-item.is c.loop-violation.invariant.all c.number.ensures.value c.loop-violation.invariant.counted;
}
