use Rattle.std.proofs.Common.{Bool, subst}
use Rattle.hazard_find.specs.Walk.{IsKept}
use Rattle.hazard_find.proofs.walk.find.Goals as goal

pub loop-i-init : goal.loop-i-init
loop-i-init c = record {
  kept = subst (λ (b : Bool). IsKept c.args.file.now b 0 c.new-earlier.result) c.is_assumed.ensures (c.new-earlier.ensures c.args.file.now);
  found = c.new-list.ensures.items;
}
