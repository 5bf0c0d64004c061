use Rattle.std.proofs.Common.{◌≡◌, ◌++◌, drop}
use Rattle.migration_gate.specs.Verdict.{names_of}
use Rattle.migration_gate.specs.PrintedVerdict.{printed_files}
use Rattle.migration_gate.proofs.print.push_files.Given as goal

-- what was added so far, and then the other files
abbrev pub invariant-loop-file : goal.invariant-loop-file
invariant-loop-file l =
    l.to.items ++ printed_files l.file (drop l.file (names_of l.files)) l.rest ≡ l.initial.to.items ++ printed_files 0 (names_of l.files) l.works
