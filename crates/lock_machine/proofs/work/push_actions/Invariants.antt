use Rattle.std.proofs.Common.{◌≡◌, ◌++◌, take}
use Rattle.lock_machine.specs.Machine.{Machine}
use Rattle.lock_machine.specs.MachineWalk.{IsMachine}
use Rattle.lock_machine.specs.Works.{works_of_actions}
use Rattle.lock_machine.proofs.work.push_actions.Given as goal

-- the work of the actions so far was added
abbrev pub invariant-loop-a : goal.invariant-loop-a
invariant-loop-a l =
    (m : Machine) → IsMachine l.p m l.machine
    → l.list.items ≡ l.fn.list.items ++ works_of_actions l.set l.p m l.stmt l.path (take l.a-index l.actions)
