use Rattle.std.proofs.Common.{take}
use Rattle.fix_command.proofs.Moving.{one_more, placed}
use Rattle.fix_command.proofs.places.all_moved.Goals as goal

pub loop-other-preserved : goal.loop-other-preserved
loop-other-preserved c =
    let l = c.loop-other in
    one_more c.args.text.now c.args.others.now l.made.items c.push.new.self.items l.other-index c.other-item.result c.moved.result c.loop-other-test.true c.other-item.is c.in_ok-push.ensures.items l.invariant c.moved.ensures

pub returns-clause-placed : goal.returns-clause-placed
returns-clause-placed c = placed c.args.text.now (take c.loop-other.other-index c.args.others.now) c.loop-other.made.items c.loop-other.invariant
