use Rattle.lock_machine.proofs.MachineLaws.{kept_after}
use Rattle.lock_machine.proofs.machine.Machine.update.Goals as goal

pub returns-clause-ok : goal.returns-clause-ok
returns-clause-ok c = λ m kept.
    kept_after c.args.p.now c.args.s.now m c.args.self.now c.create.new.self c.count.new.self c.set_block.new.self
    c.in_ok-create.ensures.number c.in_ok-create.ensures.block c.in_ok-create.ensures.ok
    c.count.ensures.number c.count.ensures.block c.count.ensures.births
    c.set_block.ensures.number c.set_block.ensures.block c.set_block.ensures.births kept
