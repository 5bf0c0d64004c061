use Rattle.std.proofs.Common.{◌≡◌, ◌++◌, take}
use Rattle.migration_gate.specs.Run.{in_file}
use Rattle.migration_gate.proofs.judging.push_works.Given as goal

abbrev pub invariant-loop-work : goal.invariant-loop-work
invariant-loop-work l = l.to.items ≡ l.fn.to.items ++ in_file l.file (take l.work-index l.works)
