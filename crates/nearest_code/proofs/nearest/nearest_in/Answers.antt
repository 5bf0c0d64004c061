use Rattle.std.proofs.Common.{arith}
use Rattle.lint_base.specs.declared.rule.Rule.TheVariants as rule
use Rattle.lint_report.specs.declared.code.Code.TheVariants as code
use Rattle.nearest_code.proofs.Steps.{first_is_nearest, nearer_step, same_step}
use Rattle.nearest_code.proofs.nearest.nearest_in.Goals as goal
use Rattle.nearest_code.proofs.nearest.nearest_in.Goals.{then-count-least, else-count-least}

pub loop-i-init : goal.loop-i-init
loop-i-init c = record {
  least = c.in_ok-least.ensures;
  nearest = first_is_nearest c.args.codes.now c.args.text.now (code.Rule rule.RequireConcurrentIndexCreation) (omega arith);
}

pub loop-i-preserved : goal.loop-i-preserved
loop-i-preserved c =
    elim c.if-count-least.branch [
      | then-count-least w ↦ record {
        least = rw (w.least-is, w.nearest-is) c.in_ok-count.ensures;
        nearest = rw (w.nearest-is) (nearer_step c.args.codes.now c.args.text.now c.loop-i.i (code.Rule rule.RequireConcurrentIndexCreation) c.loop-i.nearest c.loop-i.least c.in_ok-count.count (omega arith) c.loop-i.invariant.nearest c.loop-i.invariant.least c.in_ok-count.ensures (omega arith));
      }
      | else-count-least w ↦ record {
        least = rw (w.least-is, w.nearest-is) c.loop-i.invariant.least;
        nearest = rw (w.nearest-is) (same_step c.args.codes.now c.args.text.now c.loop-i.i (code.Rule rule.RequireConcurrentIndexCreation) c.loop-i.nearest c.loop-i.least c.in_ok-count.count (omega arith) c.loop-i.invariant.nearest c.loop-i.invariant.least c.in_ok-count.ensures (omega arith));
      }
    ]
