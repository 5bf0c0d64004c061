use Rattle.std.proofs.Common.{◌≡◌, ◌++◌, drop}
use Rattle.std.specs.List.{flat_map}
use Rattle.squawk_print_locks.specs.PrintedLocks.{printed_work}
use Rattle.squawk_print_locks.proofs.lines.push_works.Given as goal

-- what was added so far, and then the lines of the other works
abbrev pub invariant-loop-work : goal.invariant-loop-work
invariant-loop-work l = l.to.items ++ flat_map printed_work (drop l.work-index l.works) ≡ l.initial.to.items ++ flat_map printed_work l.works
