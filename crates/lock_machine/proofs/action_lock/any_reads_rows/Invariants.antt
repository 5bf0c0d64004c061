use Rattle.std.proofs.Common.{◌≡◌, false, take}
use Rattle.std.specs.List.{list_any}
use Rattle.lock_machine.specs.Works.{reads_rows}
use Rattle.lock_machine.proofs.action_lock.any_reads_rows.Given as goal

-- none of the constraints so far
abbrev pub invariant-loop-c : goal.invariant-loop-c
invariant-loop-c l = list_any (reads_rows l.set l.p) (take l.c-index l.constraints) ≡ false
