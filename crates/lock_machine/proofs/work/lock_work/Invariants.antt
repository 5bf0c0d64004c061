use Rattle.std.proofs.Common.{◌≡◌, ◌≤◌}
use Rattle.lint_pass.specs.lint_transaction.Earlier.{concat_below}
use Rattle.lock_machine.specs.Machine.{before}
use Rattle.lock_machine.specs.MachineWalk.{IsMachine}
use Rattle.lock_machine.specs.Works.{is_assumed, works_at}
use Rattle.lock_machine.proofs.work.lock_work.Given as goal

-- the work of the statements so far was added, and the machine is after them
abbrev pub invariant-loop-i : goal.invariant-loop-i
invariant-loop-i l = record {
  kept : IsMachine l.file (before (is_assumed l.set l.file) l.file l.i) l.machine;
  few : l.machine.number ≤ l.i;
  listed : l.list.items ≡ concat_below (works_at l.set l.file) l.i;
}
