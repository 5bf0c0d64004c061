use Rattle.std.proofs.Common.{arith, subst}
use Rattle.lock_machine.specs.Machine.{start}
use Rattle.lock_machine.specs.MachineWalk.{IsMachine}
use Rattle.lock_machine.proofs.work.lock_work.Goals as goal

pub loop-i-init : goal.loop-i-init
loop-i-init c = record {
  kept = subst (λ assumed. IsMachine c.args.file.now (start assumed) c.new-machine.result) c.is_assumed-assumed.ensures (c.new-machine.ensures.start c.args.file.now);
  few = omega (arith, c.new-machine.ensures.number);
  listed = c.new-list.ensures.items;
}
