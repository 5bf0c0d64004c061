use Rattle.std.proofs.Common.{List, ℕ, arith}
use Rattle.std.specs.Borrow.{Bor}
use Rattle.text_diff.proofs.Sides.{not_apart, taken_more}
use Rattle.text_diff.proofs.script.same_front.Goals as goal

pub loop-i-preserved : goal.loop-i-preserved
loop-i-preserved c =
    taken_more (λ (line : Bor (List ℕ)). line.now) c.args.old.now c.args.new.now c.loop-i.i _ _ (omega arith) (omega arith)
    (not_apart c.ne.result _ _ c.ne.ensures c.if-ne.false) c.loop-i.invariant
