use Rattle.std.proofs.Common.{◌≡◌, ◌++◌, drop}
use Rattle.migration_gate.specs.PrintedVerdict.{printed_works}
use Rattle.migration_gate.proofs.print.push_works.Given as goal

-- what was added so far, and then the lines of the other works
abbrev pub invariant-loop-entry : goal.invariant-loop-entry
invariant-loop-entry l = l.to.items ++ printed_works (drop l.entry-index l.works) ≡ l.initial.to.items ++ printed_works l.works
