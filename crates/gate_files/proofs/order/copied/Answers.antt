use Rattle.std.proofs.Common.{arith}
use Rattle.gate_files.proofs.Lists.{all_taken, next_copied}
use Rattle.gate_files.proofs.order.copied.Goals as goal

pub loop-i-preserved : goal.loop-i-preserved
loop-i-preserved c =
    let l = c.loop-i in
    next_copied c.args.names.now l.i c.get.result.now l.all.items c.push.new.self.items c.in_ok-name.name c.get.ensures c.in_ok-name.ensures.ok c.in_ok-push.ensures.items l.invariant

pub returns : goal.returns
returns c = all_taken c.args.names.now c.loop-i.i _ (omega arith) c.loop-i.invariant
